-- A pair h * P + l times K, where K * Q is the base P: what a digit has from Q on crosses into the next. Assumes nothing.
use Rattle.std.proofs.Common.{◌≡◌, ℕ, ◌+◌, ◌-◌, ◌*◌, ◌/◌, ◌%◌, ◌^◌, ◌<◌, ◌≤◌, sym, ap, ◌∙◌, subst, mul-le-mul_right, mod-lt, mod-eq_of_lt, div-lt_iff_lt-mul, lt_of_mul-lt-mul_right, mul-lt-mul_of_pos_right, div-add-mod', mul-one, arith, pow-add}
use native.Mathlib.Nat.{mul-mod_left}
use lib.Arith.{digits_lt, digits_mod, digits_div}
use Rattle.wide.proofs.Pairs.{mod-square}

-- ---- powers of two

pub power-split : (a n : ℕ) → a ≤ n → 2 ^ a * 2 ^ (n - a) ≡ 2 ^ n
power-split a n h = sym (pow-add 2 a (n - a)) ∙ ap (λ (x : ℕ). 2 ^ x) (omega arith)

-- ---- a pair times K

pub by_one : (D x n : ℕ) → x < D → n ≡ 0 → x ≡ x * 2 ^ n % D
by_one D x n h e = sym (ap (λ (k : ℕ). x * 2 ^ k % D) e ∙ ap (λ (y : ℕ). y % D) (mul-one x) ∙ mod-eq_of_lt h)

-- by a digit and more
pub by_digit : (P K h l : ℕ) → 0 < P → l * K % P * P + 0 ≡ (h * P + l) * (P * K) % (P * P)
by_digit P K h l p = sym (ap (λ (x : ℕ). x % (P * P)) {y = h * K * (P * P) + (l * K * P + 0)} (omega arith) ∙ mod-square P (h * K) (l * K) 0 p p)

-- by the modulus and more
pub by_modulus : (D K x : ℕ) → 0 ≡ x * (D * K) % D
by_modulus D K x = sym (ap (λ (y : ℕ). y % D) {y = x * K * D} (omega arith) ∙ mul-mod_left (x * K) D)

-- by less than a digit
module _ (P K Q : ℕ) (e : K * Q ≡ P) (k : 0 < K) (q : 0 < Q) where
  base_positive : 0 < P
  base_positive = omega (arith, e, mul-le-mul_right Q k)

  below : (x : ℕ) → x % Q * K < P
  below x = subst (λ (y : ℕ). x % Q * K < y) (omega (arith, e)) (mul-lt-mul_of_pos_right {m = x % Q} {n = Q} {k = K} (mod-lt x q) k)

  split : (x : ℕ) → x / Q * P + x % Q * K ≡ x * K
  split x = omega (arith, ap (λ (y : ℕ). x / Q * y) e, ap (λ (y : ℕ). y * K) (div-add-mod' x Q))

  -- a digit that has room for K has room for one more
  pub room : (h : ℕ) → h * K < P → (h + 1) * K ≤ P
  room h b = omega (arith, e, mul-le-mul_right K (lt_of_mul-lt-mul_right K {m = h} {n = Q} (omega arith)))

  -- what stays of x * K in its digit, and what crosses
  stays : (x : ℕ) → x * K % P ≡ x % Q * K
  stays x = ap (λ (y : ℕ). y % P) (sym (split x)) ∙ digits_mod (x / Q) (below x)

  crosses : (x : ℕ) → x * K / P ≡ x / Q
  crosses x = ap (λ (y : ℕ). y / P) (sym (split x)) ∙ digits_div (x / Q) (below x)

  module _ (h l : ℕ) (b : l < P) where
    -- the digit has room for what crosses
    pub crossing_fits : h * K % P + l / Q < P
    crossing_fits =
        subst (λ (x : ℕ). x + l / Q < P) (sym (stays h))
        (subst (λ (x : ℕ). h % Q * K + l / Q < x) (omega (arith, e))
        (digits_lt {q = h % Q} {m = Q} {r = l / Q} {c = K} (mod-lt h q) ((div-lt_iff_lt-mul q).1 (subst (λ (x : ℕ). l < x) (sym e) b))))

    whole : (h * P + l) * K ≡ h / Q * (P * P) + ((h * K % P + l / Q) * P + l * K % P)
    whole =
        omega (
          arith,
          ap (λ (x : ℕ). x * P) (ap (λ (x : ℕ). h / Q * P + x) (stays h) ∙ split h),
          ap (λ (x : ℕ). l / Q * P + x) (stays l) ∙ split l,
        )

    pub shifted : (h * K % P + l / Q) * P + l * K % P ≡ (h * P + l) * K % (P * P)
    shifted =
        sym
        (ap (λ (x : ℕ). x % (P * P)) whole ∙ mod-square P (h / Q) (h * K % P + l / Q) (l * K % P) base_positive (mod-lt (l * K) base_positive)
        ∙ ap (λ (x : ℕ). x * P + l * K % P) (mod-eq_of_lt crossing_fits))

    -- the three digits of the whole product: the highest is that of h * K
    pub three_digits : (h' l' m n : ℕ) → h' * P + l' ≡ (h * P + l) * K % (P * P) → m * P + n ≡ h * K → n < P → (m * P + h') * P + l' ≡ (h * P + l) * K
    three_digits h' l' m n f g d =
        let top : m ≡ h / Q = sym (digits_div m d) ∙ ap (λ (x : ℕ). x / P) g ∙ crosses h in
        omega (arith, whole, shifted, f, ap (λ (x : ℕ). x * (P * P)) top)
