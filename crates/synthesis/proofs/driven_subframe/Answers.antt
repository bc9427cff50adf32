use Rattle.std.proofs.Common.{ℕ, List, ◌∷◌, ℤ, ◌+ℤ◌, sym, ap, ◌∙◌, refl, arith, to_z-of_z}
use Rattle.std.specs.Int.{w16, w64}
use Rattle.integers.specs.Base.{entry}
use Rattle.integers.specs.Bound.{fits-within}
use Rattle.integers.specs.Signed.{back, all_fit}
use Rattle.integers.specs.Expression.{is_arg, within-is}
use Rattle.integers.specs.Fill.{fills_start, fills_next, fills_end}
use Rattle.filters.specs.Filters.{last_ten}
use Rattle.synthesis.specs.Synthesis.{rounded, driven, driven_subframe}
use Rattle.synthesis.proofs.Memories.{memory_start, memory_step, memory_prediction}
use Rattle.synthesis.proofs.Samples.{driven-zero, driven-step, driven-last}
use Rattle.synthesis.proofs.driven_subframe.Goals as goal

pub loop-n-init : goal.loop-n-init
loop-n-init c =
    let zero = driven-zero c.args.a (entry c.args.x.now) c.widened-m.result in
    (fills_start refl, memory_start zero c.widened-m.ensures (omega (arith, c.well_formed.1.1.0.1.0.1)) (all_fit 10 c.well_formed.1.1.0))

pub sample-y-requires : goal.sample-y-requires
sample-y-requires c = record {
  within = let small = c.requires.at c.loop-n.n in within-is {w = w64} (is_arg (fits-within small tt)) small;
  all_fit = c.loop-n.invariant.1.fit;
}

pub loop-n-preserved : goal.loop-n-preserved
loop-n-preserved c =
    let n = c.loop-n.n in
    let x = entry c.args.x.now in
    let past = driven c.args.a x c.widened-m.result n in
    let input = to_z-of_z {w = w64} (fits-within (c.requires.at n) tt) in
    let p = memory_prediction c.loop-n.invariant.1 c.args.a in
    let latest = back w16 c.sample-y.type_inv (c.sample-y.ensures ∙ (λ i. rounded (input i +ℤ p i))) in
    let all = (λ i. latest i ∷ past) ∙ sym (driven-step c.args.a x c.widened-m.result n) in (
      fills_next c.loop-n.invariant.0 c.loop-n-test.true (ap (λ (q : List ℤ). entry q 0) all),
      memory_step c.loop-n.invariant.1 c.sample-y.result c.sample-y.type_inv all c.remembered-next.ensures,
    )

pub returns : goal.returns
unfolding driven_subframe
returns c =
    let v : ℕ → ℤ = entry c.args.x.now in
    let out = fills_end c.loop-n.invariant.0 c.loop-n-test.false ∙ ap (λ (m : List ℤ). driven_subframe c.args.a v m) c.widened-m.ensures in
    record { out_value = out; mem_value = c.last_ten.ensures ∙ ap last_ten out ∙ driven-last c.args.a v c.args.mem }
