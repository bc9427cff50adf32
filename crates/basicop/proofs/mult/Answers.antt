use Rattle.std.specs.Prelude.{◌^◌}
use Rattle.std.specs.Int.{w16, w32}
use Rattle.std.proofs.Common.{ap, ◌∙◌, to_z-of_z}
use Rattle.integers.specs.Signed.{back, mul-fits}
use Rattle.integers.specs.Expression.{is-result, is_mul, is-shr}
use Rattle.basicop.specs.Operators.{word16}
use Rattle.basicop.proofs.mult.Goals as goal

pub returns : goal.returns
returns c =
    let f = mul-fits {w' = w32} c.args.a c.args.b c.ranges.a c.ranges.b tt in
    let product = is_mul (is-result w32 c.from.result c.from.type_inv (c.from.ensures ∙ to_z-of_z c.ranges.a)) (is-result w32 c.from-2.result c.from-2.type_inv (c.from-2.ensures ∙ to_z-of_z c.ranges.b)) f in
    back w16 c.saturate.type_inv (c.saturate.ensures ∙ ap word16 (is-shr (2 ^ 15) product f).is)
