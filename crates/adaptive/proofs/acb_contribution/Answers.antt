use Rattle.std.proofs.Common.{◌≡◌, rules, pos, ◌∙◌, ap, w32, to_z-of_z}
use Rattle.integers.specs.Base.{tabulate}
use Rattle.integers.specs.FromFn.{from_fn_is}
use Rattle.adaptive.specs.Adaptive.{limited_lag, adaptive_sample, adaptive}
use Rattle.adaptive.proofs.Delays.{adaptive_sample_is}
use Rattle.adaptive.proofs.acb_contribution.Goals as goal

pub returns : goal.returns
unfolding adaptive
returns c =
    let lag : c.limited_lag-l.result ≡ limited_lag c.args.lag = c.limited_lag-l.ensures ∙ ap limited_lag (to_z-of_z {w = w32} c.ranges.lag) in
    from_fn_is _ _ (adaptive_sample c.args.signal.now c.subframe_place-p.result c.limited_lag-l.result c.args.taps) _
    (λ i y q lt k. (adaptive_sample_is _ _ _ _ i lt c.delayed_samples-e.ensures (search rules), search rules))
    (pos 0) c.from_fn.ensures.items
    ∙ (λ k. tabulate (adaptive_sample c.args.signal.now (c.subframe_place-p.ensures k) (lag k) c.args.taps) 60)
