use Rattle.std.specs.Prelude.{pos}
use Rattle.std.specs.Int.{w32, w64}
use Rattle.std.proofs.Common.{ap, ◌∙◌, to_z-of_z}
use Rattle.integers.specs.Bound.{fits-within, within-mul, within-fits, within_num}
use Rattle.integers.specs.Signed.{back}
use Rattle.integers.specs.Expression.{is-result, is-lit, is_mul}
use Rattle.basicop32.specs.Operators32.{word32}
use Rattle.basicop32.proofs.l_mult.Goals as goal

pub returns : goal.returns
returns c =
    let p = within-mul (within-fits c.ranges.a) (within-fits c.ranges.b) in
    let a = is-result w64 c.from.result c.from.type_inv (c.from.ensures ∙ to_z-of_z c.ranges.a) in
    let b = is-result w64 c.from-2.result c.from-2.type_inv (c.from-2.ensures ∙ to_z-of_z c.ranges.b) in
    let product = is_mul a b (fits-within p tt) in
    back w32 c.sat32.type_inv (c.sat32.ensures ∙ ap word32 (is_mul product (is-lit w64 2) (fits-within (within-mul p (within_num (pos 2))) tt)).is)
