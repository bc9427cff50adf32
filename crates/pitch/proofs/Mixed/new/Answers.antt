use Rattle.std.proofs.Common.{ℕ, refl, ap, ◌∙◌, rules, w32}
use Rattle.integers.specs.Bound.{all_within-zero, all_within_set}
use Rattle.integers.specs.Expression.{is-mag, within-is}
use Rattle.integers.specs.Fill.{fills_start, fills_next, fills_end}
use Rattle.pitch.specs.Pitch.{mixed}
use Rattle.pitch.proofs.Mixed.new.Goals as goal

pub loop-n-init : goal.loop-n-init
loop-n-init c = record { fills = fills_start refl; small = all_within-zero 60 }

pub loop-n-preserved : goal.loop-n-preserved
loop-n-preserved c = record {
  fills = fills_next c.loop-n.invariant.fills c.loop-n-test.true (search rules);
  small = all_within_set c.loop-n.n c.loop-n.invariant.small (within-is {w = w32} (is-mag c.mixed_sample.result c.mixed_sample.type_inv) c.mixed_sample.ensures.within);
}

pub returns : goal.returns
unfolding mixed
returns c = fills_end c.loop-n.invariant.fills c.loop-n-test.false ∙ ap (λ (p : ℕ). mixed c.args.x.now p c.args.q c.args.w) c.subframe_place-p.ensures
