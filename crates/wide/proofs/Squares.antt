-- A square times a number, as `times` makes it of a product.
use Rattle.std.proofs.Common.{◌≡◌, ℕ, ◌*◌, ◌%◌, ◌^◌, ◌≤◌, T, ltb, ap, ◌∙◌, lt_of_le_of_lt, mod-eq_of_lt, mul-le-mul, lit<}

-- of bounds whose own square and product have less than 128 bits: modulo 2 ^ 128 nothing is lost
pub square_times_lem : {p q : ℕ} (C K c k : ℕ) → c ≤ C → k ≤ K → T (ltb (C * C * K) (2 ^ 128)) → p ≡ c * c → q ≡ p * k % 2 ^ 128 → q ≡ c * c * k
square_times_lem C K c k h l t e f =
    f ∙ ap (λ (n : ℕ). n * k % 2 ^ 128) e
    ∙ mod-eq_of_lt (lt_of_le_of_lt (mul-le-mul {n₂ = C * C} {m₂ = K} (mul-le-mul {n₂ = C} {m₂ = C} h h) l) (lit< t))
