use Rattle.std.proofs.Common.{◌≡◌, ◌∷◌, add-one, refl, rules, sym, ap, ◌∙◌, to_z, of_z, to_z-of_z}
use Rattle.std.specs.Int.{w16}
use Rattle.integers.specs.Base.{entry, tabulate}
use Rattle.integers.specs.Signed.{back}
use Rattle.integers.specs.Fill.{fills_start, fills_next, fills_end}
use Rattle.postfilter.specs.Postfilter.{compensated_sample, compensated}
use Rattle.postfilter.proofs.compensated_subframe.Goals as goal

pub loop-n-init : goal.loop-n-init
loop-n-init c = (fills_start refl, refl)

pub loop-n-preserved : goal.loop-n-preserved
loop-n-preserved c =
    let n = c.loop-n.n in
    let z = c.args.z.now in
    let v : to_z w16 (of_z w16 (entry z n)) ≡ entry z n = search rules in
    let told = c.compensated_sample.ensures ∙ (λ i. compensated_sample (to_z w16 (of_z w16 c.args.k1)) (v i) (c.loop-n.invariant.1 i)) in (
      fills_next c.loop-n.invariant.0 c.loop-n-test.true (back w16 c.compensated_sample.type_inv told),
      v ∙ sym (ap (entry (to_z w16 (of_z w16 c.args.prev) ∷ z)) (add-one n)),
    )

pub returns : goal.returns
unfolding compensated
returns c =
    let k1 = to_z-of_z {w = w16} c.ranges.k1 in
    let prev = to_z-of_z {w = w16} c.ranges.prev in
    let z = c.args.z.now in
    fills_end c.loop-n.invariant.0 c.loop-n-test.false
    ∙ (λ i. tabulate (λ n. compensated_sample (k1 i) (entry z n) (entry (prev i ∷ z) n)) 60)
