-- The high digit of a pair h * P + l, and of one times K that keeps all of it. Assumes nothing.
use Rattle.std.proofs.Common.{◌≡◌, ℕ, ◌+◌, ◌*◌, ◌%◌, ◌<◌, ◌≤◌, sym, ◌∙◌, subst, lt_of_lt_of_le, mul-le-mul_right, mod-eq_of_lt, lt_of_mul-lt-mul_right, mul-lt-mul_of_pos_right, arith}

-- ---- orders

pub high_lt : (P h l m : ℕ) → h * P + l < m * P → h < m
high_lt P h l m p = lt_of_mul-lt-mul_right P (omega arith)

pub high_le : (P h l m : ℕ) → l < P → m * P ≤ h * P + l → m ≤ h
high_le P h l m p q = omega (arith, lt_of_mul-lt-mul_right P {m = m} {n = h + 1} (omega arith))

-- ---- a pair times K

-- a high digit with room for K loses nothing
pub exact : (P K m h l n : ℕ) → 0 < K → l < P → (h + 1) * K ≤ m → m ≤ P → n ≡ (h * P + l) * K % (P * P) → (n ≡ (h * P + l) * K) × (n < m * P)
exact P K m h l n k b c d e =
    let below : (h * P + l) * K < m * P = omega (arith, mul-lt-mul_of_pos_right {m = h * P + l} {n = (h + 1) * P} {k = K} (omega arith) k, mul-le-mul_right P c) in
    let is : n ≡ (h * P + l) * K = e ∙ mod-eq_of_lt (lt_of_lt_of_le below (mul-le-mul_right P d)) in
    (is, subst (λ (x : ℕ). x < m * P) (sym is) below)

pub high-le-shifted : (P K h l h' l' : ℕ) → l' < P → h' * P + l' ≡ (h * P + l) * K → h * K ≤ h'
high-le-shifted P K h l h' l' b e = high_le P h' l' (h * K) b (omega arith)
