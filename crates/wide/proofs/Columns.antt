-- The product of two words by columns in base 2 ^ 32. Assumes nothing.
use Rattle.std.proofs.Common.{◌≡◌, ℕ, ◌+◌, ◌-◌, ◌*◌, ◌/◌, ◌%◌, ◌^◌, ◌<◌, ◌≤◌, sym, ap, ◌∙◌, mul-le-mul, div-add-mod', arith}

-- the largest product of two digits
pub digits_le : (a b p : ℕ) → p ≡ a * b → a < 2 ^ 32 → b < 2 ^ 32 → p ≤ (2 ^ 32 - 1) * (2 ^ 32 - 1)
digits_le a b p e h k = omega (arith, mul-le-mul {n₁ = a} {m₁ = b} {n₂ = 2 ^ 32 - 1} {m₂ = 2 ^ 32 - 1} (omega arith) (omega arith))

-- the columns of the digits' products, with the carries q₀, q and s
columns : (a₀ a₁ b₀ b₁ q₀ r₀ q r s t : ℕ) → a₀ * b₀ ≡ q₀ * 2 ^ 32 + r₀ → a₁ * b₀ + q₀ ≡ q * 2 ^ 32 + r → a₀ * b₁ + r ≡ s * 2 ^ 32 + t
    → (a₁ * b₁ + q + s) * 2 ^ 64 + (t * 2 ^ 32 + r₀) ≡ (a₁ * 2 ^ 32 + a₀) * (b₁ * 2 ^ 32 + b₀)
columns a₀ a₁ b₀ b₁ q₀ r₀ q r s t e f g = omega arith

-- of the products of the digits of a and b
module _ (a b w u v h : ℕ) (ew : w ≡ (a % 2 ^ 32) * (b % 2 ^ 32)) (eu : u ≡ (a / 2 ^ 32) * (b % 2 ^ 32)) (ev : v ≡ (a % 2 ^ 32) * (b / 2 ^ 32)) (eh : h ≡ (a / 2 ^ 32) * (b / 2 ^ 32)) where
  abbrev left : ℕ
  left = u + w / 2 ^ 32

  abbrev cross : ℕ
  cross = v + left % 2 ^ 32

  pub product_is : (h + left / 2 ^ 32 + cross / 2 ^ 32) * 2 ^ 64 + (cross % 2 ^ 32 * 2 ^ 32 + w % 2 ^ 32) ≡ a * b
  product_is =
      ap (λ (n : ℕ). (n + left / 2 ^ 32 + cross / 2 ^ 32) * 2 ^ 64 + (cross % 2 ^ 32 * 2 ^ 32 + w % 2 ^ 32)) eh
      ∙ columns (a % 2 ^ 32) (a / 2 ^ 32) (b % 2 ^ 32) (b / 2 ^ 32) (w / 2 ^ 32) (w % 2 ^ 32) (left / 2 ^ 32) (left % 2 ^ 32) (cross / 2 ^ 32) (cross % 2 ^ 32)
      (sym (div-add-mod' w (2 ^ 32) ∙ ew)) (sym (div-add-mod' left (2 ^ 32) ∙ ap (λ (n : ℕ). n + w / 2 ^ 32) eu)) (sym (div-add-mod' cross (2 ^ 32) ∙ ap (λ (n : ℕ). n + left % 2 ^ 32) ev))
      ∙ (λ i. div-add-mod' a (2 ^ 32) i * div-add-mod' b (2 ^ 32) i)

pub by_digits : (a b : ℕ) → a * b ≡ (a / 2 ^ 32 * 2 ^ 32 + a % 2 ^ 32) * (b / 2 ^ 32 * 2 ^ 32 + b % 2 ^ 32)
by_digits a b = λ i. sym (div-add-mod' a (2 ^ 32)) i * sym (div-add-mod' b (2 ^ 32)) i
