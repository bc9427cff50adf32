-- One digit of a long division in base B: the quotient of u * B + l by v₁ * B + v₀, from an estimate q that leaves r of u by v₁ alone. Assumes nothing.
use Rattle.std.proofs.Common.{◌≡◌, ℕ, ◌+◌, ◌-◌, ◌*◌, ◌/◌, ◌%◌, ◌<◌, ◌≤◌, sym, ap, ◌∙◌, subst, le_trans, le-add_right, mul-le-mul_right, mod-eq_of_lt, mul-le-mul, lt_of_mul-lt-mul_right, div-add-mod', arith}
use native.Mathlib.Nat.{lt_of_mul-lt-mul_left, mul-add-div_right, mod-add-mod, add-mod_right}
use lib.Arith.{digits_div}

pub quotient_is : (n d q r : ℕ) → q * d + r ≡ n → r < d → q ≡ n / d
quotient_is n d q r e h = sym (ap (λ (x : ℕ). x / d) (sym e) ∙ digits_div q h)

-- the quotient of a pair by v, from that of the digit h
pub pair_quotient : (P h l v : ℕ) → 0 < v → h / v * P + (h % v * P + l) / v ≡ (h * P + l) / v
pair_quotient P h l v p =
    sym
    (ap (λ (x : ℕ). x / v) {y = h / v * P * v + (h % v * P + l)} (omega (arith, ap (λ (x : ℕ). x * P) (div-add-mod' h v)))
    ∙ mul-add-div_right p (h / v * P) (h % v * P + l))

-- a quotient by a number above u is one digit
pub digit_lt : (B u l v q : ℕ) → u < v → l < B → q * v ≤ u * B + l → q < B
digit_lt B u l v q h k p = lt_of_mul-lt-mul_left v (omega (arith, mul-le-mul_right B h))

-- a remainder of more than a digit makes the estimate right
pub product_le : (B q v₀ r l : ℕ) → q ≤ r → v₀ ≤ B → q * v₀ ≤ r * B + l
product_le B q v₀ r l h k = le_trans (mul-le-mul h k) (le-add_right (r * B) l)

-- a difference below M, from its sum with p modulo M
pub difference : (M n p x : ℕ) → x < M → p ≤ M → p ≤ n → n - p < M → (x + p) % M ≡ n % M → x ≡ n - p
difference M n p x h k b d e = sym (again x h) ∙ ap (λ (y : ℕ). (y + (M - p)) % M) (e ∙ ap (λ (y : ℕ). y % M) {y = n - p + p} (omega arith)) ∙ again (n - p) d
  where
    again : (z : ℕ) → z < M → ((z + p) % M + (M - p)) % M ≡ z
    again z c = mod-add-mod (z + p) M (M - p) ∙ ap (λ (y : ℕ). y % M) {y = z + M} (omega arith) ∙ add-mod_right z M ∙ mod-eq_of_lt c

-- an estimate that is not below the quotient
pub record Estimate (B u l v₁ v₀ q r : ℕ) : Type 0 where
  pub sum : q * v₁ + r ≡ u
  pub above : u * B + l < (q + 1) * (v₁ * B + v₀)

module _ (B u l v₁ v₀ : ℕ) where
  -- the quotient by v₁ is the first estimate
  pub first : (q r : ℕ) → q * v₁ + r ≡ u → r < v₁ → l < B → Estimate B u l v₁ v₀ q r
  first q r e p h = record { sum = e; above = omega (arith, mul-le-mul_right B p, ap (λ (x : ℕ). x * B) e) }

  module _ (q r : ℕ) (i : Estimate B u l v₁ v₀ q r) where
    -- so q is too large exactly where q * v₀ is above r * B + l
    balance : q * (v₁ * B + v₀) + (r * B + l) ≡ u * B + l + q * v₀
    balance = omega (arith, ap (λ (x : ℕ). x * B) i.sum)

    pub positive : r * B + l < q * v₀ → 0 < q
    positive h = lt_of_mul-lt-mul_right v₀ (omega arith)

    pub next : r * B + l < q * v₀ → Estimate B u l v₁ v₀ (q - 1) (r + v₁)
    next h =
        let e : q - 1 + 1 ≡ q = omega (arith, positive h) in
        record {
          sum = omega (arith, ap (λ (x : ℕ). x * v₁) e, i.sum);
          above = subst (λ (x : ℕ). u * B + l < x * (v₁ * B + v₀)) (sym e) (omega (arith, balance));
        }

    pub right : q * v₀ ≤ r * B + l → (q * (v₁ * B + v₀) + (r * B + l - q * v₀) ≡ u * B + l) × (r * B + l - q * v₀ < v₁ * B + v₀)
    right h = omega (arith, balance, i.above)

    -- an estimate of more than a digit is above a quotient of one digit
    pub long : u < v₁ * B + v₀ → l < B → B ≤ q → r * B + l < q * v₀
    long h k p = omega (arith, balance, mul-le-mul_right B h, mul-le-mul_right (v₁ * B + v₀) p)
