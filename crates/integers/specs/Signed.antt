-- `search signed`: what a signed operation asks of its operands' types, and what is read back from bits.
use Rattle.std.specs.Prelude.{◌≡◌, refl, Bool, true, false, List, [], ◌∷◌, ℕ, zero, suc, ◌+◌, ◌-◌, ◌*◌, ◌/◌, ◌^◌, ◌≤◌, ◌<◌, T, leb, ltb, ℤ, pos, negsuc, nat_abs, neg_ℤ, ◌+ℤ◌, ◌-ℤ◌, ◌*ℤ◌, ◌≤ℤ◌}
use Rattle.std.proofs.Common.{◌∙◌, subst, div-le_self, lt_of_le_of_lt, lt_of_lt_of_le, div-lt_iff_lt-mul, arith, rules, leb→le, to_z-of_z}
use denote.Shadow.{shadow}
use denote.Array.{each, in_array}
use denote.Signed.{SInt}
use Rattle.std.proofs.Math.IntN.{sub_ℕ}
use Rattle.std.specs.Int.Signed.{mag, lt_z, non_neg, shr_z, quot_z, mag_shr}
use Rattle.std.specs.Int.{Width, w8, w16, w32, w64, w128}
use mir.Val.{Val, SFits, hbits, to_z, of_z}
use Rattle.std.proofs.Math.Facts.{sfits_widen, sfits_lit}
use Rattle.integers.specs.Base.{AllFit, entry, up}
use Rattle.integers.specs.Natural.{cond_elim, none-below-zero}
use Rattle.integers.specs.Bound.{within-add, within-sub, within-mul, within-fits, fits-within}

-- ---- bits read back

-- of a number of which a read of an element (`.given`) or a call (`.ok`) tells the bound
pub read_back : (w : Width) (z : ℤ) → mag z < 2 ^ hbits w → to_z w (of_z w z) ≡ z
read_back w z p = to_z-of_z {w = w} (record { sfits = p })

-- of a call's result, with what the call ensures: `back w16 c.f.ok e`
pub back : (w : Width) {r s : ℤ} → mag r < 2 ^ hbits w → r ≡ s → to_z w (of_z w r) ≡ s
back w {r} p e = read_back w r p ∙ e

-- a test of what is read back is one of the number
pub lt_z_back-left : {w : Width} {z : ℤ} (k : ℤ) (b : Bool) → SFits w z → lt_z (to_z w (of_z w z)) k ≡ b → lt_z z k ≡ b
lt_z_back-left {w} {z} k b f h = subst (λ (x : ℤ). lt_z x k ≡ b) (to_z-of_z f) h

pub lt_z_back-right : {w : Width} {z : ℤ} (k : ℤ) (b : Bool) → SFits w z → lt_z k (to_z w (of_z w z)) ≡ b → lt_z k z ≡ b
lt_z_back-right {w} {z} k b f h = subst (λ (x : ℤ). lt_z k x ≡ b) (to_z-of_z f) h

-- ---- signs, as tests and as a cast to an unsigned type has them

pub nonneg : (z : ℤ) → lt_z z (pos 0) ≡ false → T (non_neg z)
nonneg (pos n) h = tt
nonneg (negsuc n) h = absurd (subst T h tt)

pub neg-nonneg : (z : ℤ) → lt_z z (pos 0) ≡ true → T (non_neg (neg_ℤ z))
neg-nonneg (pos n) h = none-below-zero n h
neg-nonneg (negsuc n) h = tt

-- a number that is not negative, as a cast to an unsigned type has it
pub natural : (z : ℤ) → pos 0 ≤ℤ z → T (non_neg z) × (pos (nat_abs z) ≡ z) × (nat_abs z ≡ up z)
natural (pos n) h = (tt, refl, refl)
natural (negsuc n) h = absurd h.le

-- ---- one operation on numbers of narrow types, at a wider one; `search` has the narrow widths from the facts that it finds

pub widen : {w w' : Width} {z : ℤ} → SFits w z → T (leb (hbits w) (hbits w')) → SFits w' z
widen f t = sfits_widen t f

pub add-fits : {w₁ w₂ w' : Width} (x y : ℤ) → SFits w₁ x → SFits w₂ y → T (ltb (2 ^ hbits w₁ + 2 ^ hbits w₂) (2 ^ hbits w')) → SFits w' (x +ℤ y)
add-fits x y f g t = fits-within (within-add (within-fits f) (within-fits g)) t

pub sub-fits : {w₁ w₂ w' : Width} (x y : ℤ) → SFits w₁ x → SFits w₂ y → T (ltb (2 ^ hbits w₁ + 2 ^ hbits w₂) (2 ^ hbits w')) → SFits w' (x -ℤ y)
sub-fits x y f g t = fits-within (within-sub (within-fits f) (within-fits g)) t

pub mul-fits : {w₁ w₂ w' : Width} (x y : ℤ) → SFits w₁ x → SFits w₂ y → T (ltb (2 ^ hbits w₁ * 2 ^ hbits w₂) (2 ^ hbits w')) → SFits w' (x *ℤ y)
mul-fits x y f g t = fits-within (within-mul (within-fits f) (within-fits g)) t

-- a floor quotient fits where the number does, and a narrower type where the divisor makes it small enough
pub shr-fits : {w : Width} (z : ℤ) (m : ℕ) → SFits w z → SFits w (shr_z z m)
shr-fits z m f = record { sfits = lt_of_le_of_lt (mag_shr z m) f.sfits }

mag-shr-is : (z : ℤ) (m : ℕ) → mag (shr_z z m) ≡ mag z / m
mag-shr-is (pos a) m = refl
mag-shr-is (negsuc a) m = refl

pub shr_narrow : {w w' : Width} (z : ℤ) (m : ℕ) → SFits w z → T (leb 1 m) → T (leb (2 ^ hbits w) (2 ^ hbits w' * m)) → SFits w' (shr_z z m)
shr_narrow {w} {w'} z m f p t = record {
  sfits = rw (mag-shr-is z m) ((div-lt_iff_lt-mul (leb→le 1 m p)).1 (lt_of_lt_of_le f.sfits (leb→le _ _ t)));
}

-- a quotient by a literal
pub mag-neg : (r : ℕ) {a : ℕ} → r ≤ suc a → mag (neg_ℤ (pos r)) ≤ a
mag-neg zero h = omega arith
mag-neg (suc r) h = omega arith

mag-quot : (z : ℤ) (d : ℕ) → mag (quot_z z (pos d)) ≤ mag z
mag-quot (pos a) d = div-le_self a d
mag-quot (negsuc a) d = mag-neg (suc a / d) (div-le_self (suc a) d)

pub quot_fits : {w : Width} (z : ℤ) (d : ℕ) → SFits w z → SFits w (quot_z z (pos d))
quot_fits z d f = record { sfits = lt_of_le_of_lt (mag-quot z d) f.sfits }

-- the floor of the mean of two numbers of a type fits it
mag_subℕ : (a b A B : ℕ) → a < A → b < B → mag (sub_ℕ a (suc b)) < A + B
mag_subℕ a b A B p q =
    cond_elim (ltb a (suc b)) (negsuc (suc b - suc a)) (pos (a - suc b)) (λ z. mag z < A + B) (λ t. omega arith) (λ t. omega arith)

pub mag-add : (x y : ℤ) {A B : ℕ} → mag x < A → mag y < B → mag (x +ℤ y) < A + B
mag-add (pos a) (pos b) p q = omega arith
mag-add (pos a) (negsuc b) {A} {B} p q = mag_subℕ a b A B p q
mag-add (negsuc a) (pos b) {A} {B} p q = omega (arith, mag_subℕ b a B A q p)
mag-add (negsuc a) (negsuc b) p q = omega arith

pub mean-fits : {w : Width} (x y : ℤ) → SFits w x → SFits w y → SFits w (shr_z (x +ℤ y) 2)
mean-fits {w} x y f g = record {
  sfits = rw (mag-shr-is (x +ℤ y) 2) ((div-lt_iff_lt-mul (leb→le 1 2 tt)).1 (omega (arith, mag-add x y f.sfits g.sfits)));
}

-- ---- elements of arrays

pub zero-fits : (w : Width) → SFits w (pos 0)
zero-fits w8 = sfits_lit tt
zero-fits w16 = sfits_lit tt
zero-fits w32 = sfits_lit tt
zero-fits w64 = sfits_lit tt
zero-fits w128 = sfits_lit tt

each_fits : (w : Width) (xs : List ℤ) (us : List Val) (i : ℕ) → shadow (each ℤ (SInt w).own_val xs us) → SFits w (entry xs i)
each_fits w [] us i p = zero-fits w
each_fits w (x ∷ xs) [] i p = absurd p
each_fits w (x ∷ xs) (u ∷ us) zero p = record { sfits = p.0.1 }
each_fits w (x ∷ xs) (u ∷ us) (suc i) p = each_fits w xs us i p.1

-- at any index, at the elements' type and any wider one
pub element_fits : (w w' : Width) (xs : List ℤ) (us : List Val) (i : ℕ) → shadow (each ℤ (SInt w).own_val xs us) → T (leb (hbits w) (hbits w')) → SFits w' (entry xs i)
element_fits w w' xs us i p t = sfits_widen t (each_fits w xs us i p)

-- of a parameter that is an array of n: `all_fit 10 s.good.0`
pub all_fit : {w : Width} (n : ℕ) {xs : List ℤ} {vs : List Val} → shadow (in_array ℤ (SInt w).own_val n xs vs) → AllFit w xs
all_fit {w} n {xs} p = record { at = λ i. each_fits w xs p.0 i p.1.1 }

-- ---- the set

pub ruleset signed = (rules, widen, shr-fits, shr_narrow, quot_fits, mean-fits, fits-within, add-fits, sub-fits, mul-fits, element_fits)
