-- Numbers of two digits h and l, h * P + l, in any base P. Assumes nothing.
use Rattle.std.proofs.Common.{◌≡◌, ℕ, ◌+◌, ◌*◌, ◌/◌, ◌%◌, ◌<◌, sym, ap, ◌∙◌, subst, mul-le-mul_right, mod-lt, div-add-mod', arith}
use lib.Arith.{digits_lt, digits_mod}

-- ---- orders

pub pair_lt : (P h l h' l' : ℕ) → h < h' → l < P → h * P + l < h' * P + l'
pair_lt P h l h' l' p q = omega (arith, mul-le-mul_right P p)

-- ---- modulo the square of the base

pub mod-square : (P q h l : ℕ) → 0 < P → l < P → (q * (P * P) + (h * P + l)) % (P * P) ≡ h % P * P + l
mod-square P q h l p k =
    ap (λ (n : ℕ). n % (P * P)) (regroup (h / P) (h % P) (div-add-mod' h P))
    ∙ digits_mod (q + h / P) (digits_lt (mod-lt h p) k)
  where
    regroup : (x y : ℕ) → x * P + y ≡ h → q * (P * P) + (h * P + l) ≡ (q + x) * (P * P) + (y * P + l)
    regroup x y e = subst (λ (z : ℕ). q * (P * P) + (z * P + l) ≡ (q + x) * (P * P) + (y * P + l)) e (omega arith)

-- a pair times b, of the products by its digits
pub times_is : (P ah al b ph pl qh ql : ℕ) → 0 < P → pl < P → ph * P + pl ≡ al * b → qh * P + ql ≡ ah * b → (ph + ql) % P * P + pl ≡ (ah * P + al) * b % (P * P)
times_is P ah al b ph pl qh ql p k e f = sym (ap (λ (n : ℕ). n % (P * P)) whole ∙ mod-square P qh (ph + ql) pl p k)
  where
    whole : (ah * P + al) * b ≡ qh * (P * P) + ((ph + ql) * P + pl)
    whole = omega (arith, ap (λ (n : ℕ). n * P) f)
