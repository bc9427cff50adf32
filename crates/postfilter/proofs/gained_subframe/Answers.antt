use Rattle.std.proofs.Common.{◌≡◌, ◌+◌, refl, rules, sym, ap, ◌∙◌, to_z, of_z, to_z-of_z}
use Rattle.std.specs.Int.{w16, w32}
use Rattle.integers.specs.Base.{entry, tabulate}
use Rattle.integers.specs.Signed.{back}
use Rattle.integers.specs.Fill.{fills_start, fills_next, fills_end}
use Rattle.postfilter.specs.Postfilter.{towards, gain_after, gained_sample, gained}
use Rattle.postfilter.proofs.Steps.{gain-zero, gain-step}
use Rattle.postfilter.proofs.gained_subframe.Goals as goal

pub loop-n-init : goal.loop-n-init
loop-n-init c = (fills_start refl, sym (gain-zero (to_z w32 (of_z w32 c.args.t)) (to_z w32 (of_z w32 c.args.gain))))

pub loop-n-preserved : goal.loop-n-preserved
loop-n-preserved c =
    let n = c.loop-n.n in
    let t = to_z w32 (of_z w32 c.args.t) in
    let step = gain-step t (to_z w32 (of_z w32 c.args.gain)) n in
    let next = back w32 c.moved_gain-g.type_inv (c.moved_gain-g.ensures ∙ ap (towards t) c.loop-n.invariant.1 ∙ sym step) in
    let v : to_z w16 (of_z w16 (entry c.args.z.now n)) ≡ entry c.args.z.now n = search rules in (
      fills_next c.loop-n.invariant.0 c.loop-n-test.true
          (back w16 c.gained_sample.type_inv (c.gained_sample.ensures ∙ (λ i. gained_sample (next i) (v i)))),
      next,
    )

pub returns-clause-out_value : goal.returns-clause-out_value
unfolding gained
returns-clause-out_value c =
    let t = to_z-of_z {w = w32} c.ranges.t in
    let g = to_z-of_z {w = w32} c.ranges.gain in
    fills_end c.loop-n.invariant.0 c.loop-n-test.false
    ∙ (λ i. tabulate (λ n. gained_sample (gain_after (t i) (g i) (n + 1)) (entry c.args.z.now n)) 60)
