use Rattle.std.proofs.Common.{pos, ◌∙◌, to_z-of_z}
use Rattle.std.specs.Int.{w64}
use Rattle.integers.specs.Bound.{within-mul, within-fits, within_num, fits-within}
use Rattle.integers.specs.Expression.{is-result, is-lit, is_mul, within-is}
use Rattle.synthesis.proofs.scaled_input.Goals as goal

pub returns : goal.returns
returns c =
    let x = is-result w64 c.from.result c.from.type_inv (c.from.ensures ∙ to_z-of_z c.ranges.x) in
    let small = within-mul (within-fits c.ranges.x) (within_num (pos 8192)) in
    let product = is_mul x (is-lit w64 8192) (fits-within small tt) in
    record { value = product.is; within = within-is product small }
