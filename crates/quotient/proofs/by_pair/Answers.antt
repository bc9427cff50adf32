-- Both numbers times a power of two have the same quotient, and the quotient of the dividend's two high words by the divisor's high word is its first estimate.
use Rattle.std.proofs.Common.{◌≡◌, ℕ, ◌+◌, ◌-◌, ◌*◌, ◌/◌, ◌%◌, ◌^◌, ◌<◌, ◌≤◌, ap, ◌∙◌, le_trans, le_refl, lt_of_lt_of_le, le_of_lt, zero-add, arith, pow_pos, pow_mono, rules}
use native.Mathlib.Nat.{mul-div-mul_right}
use Rattle.wide.specs.Value.{value}
use Rattle.wide.specs.declared.Wide.{Wide}
use Rattle.wide.proofs.Shifts.{power-split, room, three_digits}
use Rattle.quotient.proofs.Shifts.{high_lt, exact, high-le-shifted}
use Rattle.quotient.proofs.by_pair.Goals as goal

-- d and n's high word, shifted by k to v and t
module _ (n d v t : Wide) {k : ℕ} (s : (k < 64) × (2 ^ 63 ≤ d.hi * 2 ^ k) × (d.hi * 2 ^ k < 2 ^ 64)) (v-is : value v ≡ value d * 2 ^ k % 2 ^ 128)
    (t-is : value t ≡ (0 * 2 ^ 64 + n.hi) * 2 ^ k % 2 ^ 128) (words : (n.hi < 2 ^ 64) × (n.lo < 2 ^ 64) × (d.lo < 2 ^ 64) × (v.lo < 2 ^ 64) × (t.lo < 2 ^ 64)) where
  split : 2 ^ k * 2 ^ (64 - k) ≡ 2 ^ 64
  split = power-split k 64 (le_of_lt s.0)

  -- the shift of the divisor loses no bit
  divisor : value v ≡ value d * 2 ^ k
  divisor = (exact (2 ^ 64) (2 ^ k) (2 ^ 64) d.hi d.lo (value v) (pow_pos k) words.2 (room (2 ^ 64) (2 ^ k) (2 ^ (64 - k)) split (pow_pos k) (pow_pos (64 - k)) d.hi s.2) (le_refl (2 ^ 64)) v-is).0

  -- the high word of the dividend, three words long
  top : (value t ≡ n.hi * 2 ^ k) × (value t < 2 ^ k * 2 ^ 64)
  top =
      let w = exact (2 ^ 64) (2 ^ k) (2 ^ k) 0 n.hi (value t) (pow_pos k) words.0 (omega arith) (pow_mono (le_of_lt s.0)) t-is in
      (w.0 ∙ ap (λ (x : ℕ). x * 2 ^ k) (zero-add n.hi), w.1)

  -- the quotient of the dividend's two high words by the divisor's high word is one word
  one_word : (2 ^ 63 ≤ v.hi) × (t.hi < v.hi)
  one_word =
      let high = le_trans s.1 (high-le-shifted (2 ^ 64) (2 ^ k) d.hi d.lo v.hi v.lo words.3 divisor) in
      (high, lt_of_lt_of_le (high_lt (2 ^ 64) t.hi t.lo (2 ^ k) top.1) (le_trans (pow_mono {j = 63} (omega (arith, s.0))) high))

  -- with n shifted to m, the quotient is that of n by d
  quotient : (m : Wide) → value m ≡ value n * 2 ^ k % 2 ^ 128 → ((t.hi * 2 ^ 64 + m.hi) * 2 ^ 64 + m.lo) / value v ≡ value n / value d
  quotient m e =
      let dividend = three_digits (2 ^ 64) (2 ^ k) (2 ^ (64 - k)) split (pow_pos k) (pow_pos (64 - k)) n.hi n.lo words.1 m.hi m.lo t.hi t.lo e top.0 words.4 in
      (λ i. dividend i / divisor i) ∙ mul-div-mul_right (value n) (value d) (pow_pos k)

pub two_digits-requires : goal.two_digits-requires
two_digits-requires c =
    one_word c.args.n c.args.d c.shift_left-v.result c.shift_left-top.result c.top_shift-s.ensures c.shift_left-v.ensures c.shift_left-top.ensures (search rules)

pub returns : goal.returns
returns c =
    let v = c.shift_left-v in
    let m = c.shift_left-m in
    let same = quotient c.args.n c.args.d v.result c.shift_left-top.result c.top_shift-s.ensures v.ensures c.shift_left-top.ensures (search rules) m.result m.ensures in
    c.corrected.ensures ∙ (λ i. (c.two_digits.ensures.0 i * 2 ^ 64 + m.result.lo) / value v.result) ∙ same
