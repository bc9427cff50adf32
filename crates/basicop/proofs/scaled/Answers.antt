use Rattle.std.specs.Prelude.{◌≡◌, ℕ, pos, true, false, min, nat_abs, ◌≤◌, ◌^◌, ◌*ℤ◌}
use Rattle.std.specs.Int.{w16, w32, w64}
use Rattle.std.proofs.Common.{ap, ◌∙◌, arith, rules, to_z-of_z}
use Rattle.integers.specs.Base.{floor_div}
use Rattle.integers.specs.Signed.{back, lt_z_back-left}
use Rattle.integers.specs.Expression.{is_arg, is-result, is_mul, is-shr, need_mul}
use Rattle.basicop.specs.Operators.{word16}
use Rattle.basicop.proofs.Shift.{factor, product-fits, scaled-down, scaled-up}
use Rattle.basicop.proofs.scaled.Goals as goal

pub overflow_mul-from : goal.overflow_mul-from
overflow_mul-from c =
    let h : c.min-size.result ≤ 15 = omega (arith, c.min-size.ensures) in
    need_mul (is-result w32 c.from.result c.from.type_inv (c.from.ensures ∙ to_z-of_z c.ranges.a)) (factor _ h) (product-fits _ h c.args.a c.ranges.a)

pub returns-else-n-lt0 : goal.returns-else-n-lt0
returns-else-n-lt0 c =
    let h : c.min-size.result ≤ 15 = omega (arith, c.min-size.ensures) in
    let k : c.min-size.result ≡ min (nat_abs c.args.n) 15 = search rules in
    let product = is_mul (is-result w32 c.from.result c.from.type_inv (c.from.ensures ∙ to_z-of_z c.ranges.a)) (factor _ h) (product-fits _ h c.args.a c.ranges.a) in
    back w16 c.saturate.type_inv
    (c.saturate.ensures ∙ ap word16 product.is ∙ ap (λ (n : ℕ). word16 (c.args.a *ℤ pos (2 ^ n))) k ∙ scaled-up c.args.a c.ranges.a.sfits c.args.n (lt_z_back-left {w = w64} (pos 0) false c.ranges.n c.if-n-lt0.false))

pub returns-then-n-lt0 : goal.returns-then-n-lt0
returns-then-n-lt0 c =
    let k : c.min-size.result ≡ min (nat_abs c.args.n) 15 = search rules in
    (is-shr (2 ^ c.min-size.result) (is_arg c.ranges.a) c.ranges.a).is
    ∙ ap (λ (n : ℕ). floor_div c.args.a (2 ^ n)) k
    ∙ scaled-down c.args.a c.ranges.a.sfits c.args.n (lt_z_back-left {w = w64} (pos 0) true c.ranges.n c.if-n-lt0.true)
