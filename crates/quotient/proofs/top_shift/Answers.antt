-- v is not 0, so it has a highest bit k, and k + 1 with the leading zeros is 64.
use Rattle.std.proofs.Common.{◌≡◌, ℕ, suc, ◌+◌, ◌*◌, ◌^◌, ◌<◌, ◌≤◌, subst, le_trans, le_of_eq, mul-le-mul_right, arith, pow-add, shl_lt}
use lib.Count.{count_leading_zeros, leading_top}
use Rattle.quotient.proofs.top_shift.Goals as goal

shifted-top : (a k s : ℕ) → 2 ^ k ≤ a → a < 2 ^ suc k → s + suc k ≡ 64 → (s < 64) × (2 ^ 63 ≤ a * 2 ^ s) × (a * 2 ^ s < 2 ^ 64)
shifted-top a k s low high e = (
  omega arith,
  subst (λ (x : ℕ). 2 ^ x ≤ a * 2 ^ s) {y = 63} (omega arith) (le_trans (le_of_eq (pow-add 2 k s)) (mul-le-mul_right (2 ^ s) low)),
  subst (λ (x : ℕ). a * 2 ^ s < 2 ^ x) {y = 64} (omega arith) (shl_lt {a = a} (suc k) s high),
)

pub returns : goal.returns
returns c =
    let v = c.args.v in
    let top = leading_top 64 v c.requires c.ranges.v.fits in
    shifted-top v top.0 (count_leading_zeros 64 v) top.2 top.3 top.1
