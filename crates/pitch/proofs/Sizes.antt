-- Sizes of what the pitch postfilter computes: gains, levels.
use mathlib.Core.Path.{◌≡◌, sym, ap}
use mathlib.Core.Bool.{Bool, cond}
use mathlib.Core.Logic.{⊎_elim}
use Prim.Native.Nat.{ℕ, ◌*◌, ◌/◌, ◌^◌, ◌≤◌, ◌<◌}
use native.Mathlib.Nat.{mul-le-mul, mul-le-mul_right, div-lt_iff_lt-mul, div-le_of_le-mul}
use native.Mathlib.Omega.{arith}
use borrow.Author.Tests.{le-leb, lt-leb}
use Rattle.integers.specs.Natural.{le-or-lt}
use Rattle.isqrt.specs.Root.{root, root_is}
use Rattle.pitch.specs.Pitch.{gain}

-- ---- the gain, in its two cases

module _ (c d : ℕ) where
  pub gain-one : d ≤ c → 32767 ≡ gain c d
  gain-one h = ap (λ (t : Bool). cond t 32767 (c * 32768 / d)) (sym (le-leb d c h))

  pub gain-part : c < d → c * 32768 / d ≡ gain c d
  gain-part h = ap (λ (t : Bool). cond t 32767 (c * 32768 / d)) (sym (lt-leb d c h))

  pub part-most : c < d → c * 32768 / d ≤ 32767
  part-most h =
      let k : c * 32768 / d < 32768 = (div-lt_iff_lt-mul {k = d} {x = c * 32768} {y = 32768} (omega arith)).1 (omega arith) in
      omega arith

pub weighted-most : (g w : ℕ) → g ≤ 32767 → w ≤ 8192 → g * w ≤ 268427264
weighted-most g w h k = mul-le-mul {n₂ = 32767} {m₂ = 8192} h k

-- ---- the level, which is at most 1

pub ratio_most : (t e : ℕ) → t ≤ e → t * 2 ^ 30 / e ≤ 2 ^ 30
ratio_most t e h = div-le_of_le-mul e (mul-le-mul_right (2 ^ 30) h)

pub root-most : (n : ℕ) → n ≤ 2 ^ 30 → root n ≤ 2 ^ 15
root-most n h =
    ⊎_elim (λ k. k)
    (λ (k : 2 ^ 15 < root n). absurd (omega (arith, (root_is n).low, mul-le-mul {n₁ = 32769} {m₁ = 32769} {n₂ = root n} {m₂ = root n} k k)))
    (le-or-lt (root n) (2 ^ 15))
