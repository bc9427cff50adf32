-- Both numbers times a power of two have the same quotient, and neither shift loses a bit.
use Rattle.std.proofs.Common.{◌≡◌, ◌*◌, ◌/◌, ◌%◌, ◌^◌, ◌∙◌, le_of_lt, mul-le-mul_right, mod-eq_of_lt, arith, pow_pos, rules}
use native.Mathlib.Nat.{mul-div-mul_right}
use Rattle.wide.specs.Value.{value}
use Rattle.quotient.proofs.Shifts.{exact}
use Rattle.quotient.proofs.Estimates.{quotient_is}
use Rattle.quotient.proofs.by_word.Goals as goal

pub returns : goal.returns
returns c =
    let n = c.args.n in
    let v = c.args.v in
    let k = c.top_shift-s.result in
    let divisor : v * 2 ^ k % 2 ^ 64 ≡ v * 2 ^ k = mod-eq_of_lt c.top_shift-s.ensures.2 in
    let dividend : value c.shift_left.result ≡ value n * 2 ^ k = (exact (2 ^ 64) (2 ^ k) (v * 2 ^ k) n.hi n.lo (value c.shift_left.result) (pow_pos k) (search rules) (mul-le-mul_right (2 ^ k) (omega (arith, c.requires))) (le_of_lt c.top_shift-s.ensures.2) c.shift_left.ensures).0 in
    quotient_is _ _ _ _ c.two_digits.ensures.0 c.two_digits.ensures.1 ∙ (λ i. dividend i / divisor i) ∙ mul-div-mul_right (value n) v (pow_pos k)
