use Rattle.std.proofs.Common.{◌^◌, List, ℤ, ◌+ℤ◌, ◌∙◌, ap}
use Rattle.std.specs.Int.{w16, w64}
use Rattle.integers.specs.Base.{Within, AllFit}
use Rattle.integers.specs.Bound.{within-add, within_weaken, fits-within}
use Rattle.integers.specs.Signed.{back, all_fit}
use Rattle.integers.specs.Expression.{is_arg, is-result, is-add, need_add, within-is}
use Rattle.synthesis.specs.Synthesis.{prediction, rounded}
use Rattle.synthesis.proofs.Bounds.{prediction-within}
use Rattle.synthesis.proofs.sample.Goals as goal

sum-within : {a mem : List ℤ} {x : ℤ} → AllFit w16 a → AllFit w16 mem → Within (2 ^ 44) x → Within (2 ^ 45) (x +ℤ prediction a mem)
sum-within {a} {mem} f g h = within_weaken (within-add h (prediction-within a mem f g)) tt

pub overflow_add-x : goal.overflow_add-x
overflow_add-x c =
    let small = sum-within (all_fit 10 c.well_formed.0) c.requires.all_fit c.requires.within in
    need_add (is_arg c.ranges.x) (is-result w64 c.predicted.result c.predicted.type_inv c.predicted.ensures) (fits-within small tt)

pub rounded_sample-requires : goal.rounded_sample-requires
rounded_sample-requires c =
    let small = sum-within (all_fit 10 c.well_formed.0) c.requires.all_fit c.requires.within in
    within-is (is-add (is_arg c.ranges.x) (is-result w64 c.predicted.result c.predicted.type_inv c.predicted.ensures) (fits-within small tt)) small

pub returns : goal.returns
returns c =
    let small = sum-within (all_fit 10 c.well_formed.0) c.requires.all_fit c.requires.within in
    let sum = is-add (is_arg c.ranges.x) (is-result w64 c.predicted.result c.predicted.type_inv c.predicted.ensures) (fits-within small tt) in
    back w16 c.rounded_sample.type_inv (c.rounded_sample.ensures ∙ ap rounded sum.is)
