use Rattle.std.proofs.Common.{pos, ◌∙◌, to_z-of_z}
use Rattle.std.specs.Int.{w64}
use Rattle.integers.specs.Bound.{within-add, within-mul, within-fits, within_num, fits-within}
use Rattle.integers.specs.Expression.{is-result, is-lit, is_mul, is-add}
use Rattle.correlation.proofs.joined.Goals as goal

pub returns : goal.returns
returns c =
    let scaled = within-mul (within-fits c.ranges.high) (within_num (pos 65536)) in
    let high = is-result w64 c.from.result c.from.type_inv (c.from.ensures ∙ to_z-of_z c.ranges.high) in
    let low = is-result w64 c.from-2.result c.from-2.type_inv (c.from-2.ensures ∙ to_z-of_z c.ranges.low) in
    let sum = fits-within (within-add scaled (within-fits c.ranges.low)) tt in
    (is-add (is_mul high (is-lit w64 65536) (fits-within scaled tt)) low sum).is
