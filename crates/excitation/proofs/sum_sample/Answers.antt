use Rattle.std.proofs.Common.{◌≡◌, ◌+ℤ◌, ◌∙◌, ap, lit≤, to_z-of_z, w16, w32}
use Rattle.integers.specs.Signed.{back}
use Rattle.integers.specs.Saturation.{saturated-twice}
use Rattle.basicop.specs.Operators.{word16}
use Rattle.basicop32.specs.Operators32.{word32}
use Rattle.excitation.proofs.sum_sample.Goals as goal

pub returns : goal.returns
returns c =
    let z = c.args.u +ℤ c.args.v in
    let sum : c.l_add.result ≡ word32 z =
    c.l_add.ensures ∙ (λ i. word32 (to_z-of_z {w = w32} c.ranges.u i +ℤ to_z-of_z {w = w32} c.ranges.v i))
    in
    back w16 c.saturate.type_inv (c.saturate.ensures ∙ ap word16 (back w32 c.l_add.type_inv sum) ∙ saturated-twice 32767 2147483647 (lit≤ tt) z)
