use Rattle.std.proofs.Common.{pos, ◌∙◌, to_z-of_z}
use Rattle.std.specs.Int.{w64}
use Rattle.integers.specs.Bound.{within-mul, within-sub, within-fits, within_num, within_weaken, fits-within}
use Rattle.integers.specs.Expression.{is-result, is-lit, is_mul, is-sub, within-is}
use Rattle.synthesis.proofs.input_less.Goals as goal

pub returns : goal.returns
returns c =
    let y = is-result w64 c.from.result c.from.type_inv (c.from.ensures ∙ to_z-of_z c.ranges.y) in
    let less = is-result w64 c.from-2.result c.from-2.type_inv (c.from-2.ensures ∙ to_z-of_z c.ranges.less) in
    let scaled = within-mul (within-fits c.ranges.y) (within_num (pos 8192)) in
    let small = within-sub scaled (within-fits c.ranges.less) in
    let difference = is-sub (is_mul y (is-lit w64 8192) (fits-within scaled tt)) less (fits-within small tt) in
    record { value = difference.is; within = within-is difference (within_weaken small tt) }
