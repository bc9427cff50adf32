-- `search tree`: expressions of several signed operations, followed from the leaves. An `is-` law gives the bits of a result, a `need-` law what the operation asks. Each takes the fact that the plain result fits.
use Rattle.std.specs.Prelude.{◌≡◌, refl, ℕ, zero, suc, ◌^◌, ◌<◌, ℤ, pos, ◌+ℤ◌, ◌-ℤ◌, ◌*ℤ◌, ◌≤ℤ◌, ◌<ℤ◌}
use Rattle.std.proofs.Common.{sym, ap, ◌∙◌, subst, arith, to_z-of_z}
use borrow.Author.Rules.{sfits_of}
use Rattle.std.specs.Int.Signed.{mag, shr_z, quot_z, lt_z, le_z, ≤ℤ_refl, clash_ℤ}
use Rattle.std.specs.Int.{Width, w8, w16, w32, w64, w128}
use mir.Val.{SFits, hbits, to_z, of_z}
use Rattle.integers.specs.Base.{Within, Is}
use Rattle.integers.specs.Signed.{read_back, back, widen, shr-fits, shr_narrow, quot_fits, mean-fits, element_fits, add-fits, sub-fits, mul-fits}

-- ---- leaves

-- a parameter (`c.fits.x`)
pub is_arg : {w : Width} {z : ℤ} → SFits w z → Is w (of_z w z) z
is_arg f = record { is = to_z-of_z f }

pub is-lit : (w : Width) (n : ℕ) → Is w n (to_z w n)
is-lit w n = record { is = refl }

-- a number of which a read of an element (`.given`) or a call (`.ok`) tells the bound
pub is-mag : {w : Width} (z : ℤ) → mag z < 2 ^ hbits w → Is w (of_z w z) z
is-mag {w} z p = record { is = read_back w z p }

-- a call's result with what the call ensures: `is-result w16 c.f.result c.f.ok e`
pub is-result : (w : Width) (r : ℤ) {s : ℤ} → mag r < 2 ^ hbits w → r ≡ s → Is w (of_z w r) s
is-result w r p e = record { is = back w p e }

-- ---- operations

pub need_cast : {w w' : Width} {n : ℕ} {z : ℤ} → Is w n z → SFits w' z → SFits w' (to_z w n)
need_cast {w' = w'} i f = subst (SFits w') (sym i.is) f

pub is-cast : {w w' : Width} {n : ℕ} {z : ℤ} → Is w n z → SFits w' z → Is w' (of_z w' (to_z w n)) z
is-cast i f = record { is = to_z-of_z (need_cast i f) ∙ i.is }

module _ {w : Width} {a b : ℕ} {x y : ℤ} (p : Is w a x) (q : Is w b y) where
  pub need_add : SFits w (x +ℤ y) → SFits w (to_z w a +ℤ to_z w b)
  need_add f = subst (SFits w) (sym (λ i. p.is i +ℤ q.is i)) f

  pub is-add : SFits w (x +ℤ y) → Is w (of_z w (to_z w a +ℤ to_z w b)) (x +ℤ y)
  is-add f = record { is = to_z-of_z (need_add f) ∙ (λ i. p.is i +ℤ q.is i) }

  pub need_sub : SFits w (x -ℤ y) → SFits w (to_z w a -ℤ to_z w b)
  need_sub f = subst (SFits w) (sym (λ i. p.is i -ℤ q.is i)) f

  pub is-sub : SFits w (x -ℤ y) → Is w (of_z w (to_z w a -ℤ to_z w b)) (x -ℤ y)
  is-sub f = record { is = to_z-of_z (need_sub f) ∙ (λ i. p.is i -ℤ q.is i) }

  pub need_mul : SFits w (x *ℤ y) → SFits w (to_z w a *ℤ to_z w b)
  need_mul f = subst (SFits w) (sym (λ i. p.is i *ℤ q.is i)) f

  pub is_mul : SFits w (x *ℤ y) → Is w (of_z w (to_z w a *ℤ to_z w b)) (x *ℤ y)
  is_mul f = record { is = to_z-of_z (need_mul f) ∙ (λ i. p.is i *ℤ q.is i) }

pub is-shr : {w : Width} {n : ℕ} {z : ℤ} (m : ℕ) → Is w n z → SFits w z → Is w (of_z w (shr_z (to_z w n) m)) (shr_z z m)
is-shr {w} {n} {z} m i f = record { is = to_z-of_z (shr-fits (to_z w n) m (need_cast i f)) ∙ ap (λ (v : ℤ). shr_z v m) i.is }

-- a quotient by a literal
pub need_quot : {w : Width} {n : ℕ} {z : ℤ} (d : ℕ) → Is w n z → SFits w z → SFits w (quot_z (to_z w n) (pos d))
need_quot {w} {n} d i f = quot_fits (to_z w n) d (need_cast i f)

pub is-quot : {w : Width} {n : ℕ} {z : ℤ} (d : ℕ) → Is w n z → SFits w z → Is w (of_z w (quot_z (to_z w n) (pos d))) (quot_z z (pos d))
is-quot d i f = record { is = to_z-of_z (need_quot d i f) ∙ ap (λ (v : ℤ). quot_z v (pos d)) i.is }

-- a quotient by a number above 0: its bits are not 0
at_zero : (w : Width) → pos 0 ≡ to_z w 0
at_zero w8 = refl
at_zero w16 = refl
at_zero w32 = refl
at_zero w64 = refl
at_zero w128 = refl

not-zero : (w : Width) (n : ℕ) (z : ℤ) → to_z w n ≡ z → pos 0 <ℤ z → 0 < n
not-zero w zero z e h = clash_ℤ h (subst (λ (v : ℤ). v ≤ℤ pos 0) (at_zero w ∙ e) (≤ℤ_refl (pos 0)))
not-zero w (suc n) z e h = omega arith

module _ {w : Width} {a b : ℕ} {x y : ℤ} (p : Is w a x) (q : Is w b y) (h : pos 0 <ℤ y) where
  pub need_div : SFits w (quot_z x y) → (0 < b) × SFits w (quot_z (to_z w a) (to_z w b))
  need_div f = (not-zero w b y q.is h, subst (SFits w) (sym (λ i. quot_z (p.is i) (q.is i))) f)

  pub is-div : SFits w (quot_z x y) → Is w (of_z w (quot_z (to_z w a) (to_z w b))) (quot_z x y)
  is-div f = record { is = to_z-of_z (need_div f).1 ∙ (λ i. quot_z (p.is i) (q.is i)) }

-- ---- tests

pub is_lt : {w : Width} {a b : ℕ} {x y : ℤ} → Is w a x → Is w b y → lt_z (to_z w a) (to_z w b) ≡ lt_z x y
is_lt p q = λ i. lt_z (p.is i) (q.is i)

pub is_le : {w : Width} {a b : ℕ} {x y : ℤ} → Is w a x → Is w b y → le_z (to_z w a) (to_z w b) ≡ le_z x y
is_le p q = λ i. le_z (p.is i) (q.is i)

-- ---- what is known of the number is known of what is read

pub is_out : (w : Width) (n : ℕ) (z : ℤ) → Is w n z → to_z w n ≡ z
is_out w n z i = i.is

pub within-is : {B : ℕ} {w : Width} {n : ℕ} {z : ℤ} → Is w n z → Within B z → Within B (to_z w n)
within-is {B} i h = subst (Within B) (sym i.is) h

-- ---- the set

pub ruleset tree = (tt, sfits_of, is_out, is_arg, is-mag, is-lit, is-cast, is-add, is-sub, is_mul, is-shr, is-quot, is_lt, is_le, need_cast, need_add, need_sub, need_mul, need_quot, widen, shr-fits, shr_narrow, quot_fits, mean-fits, add-fits, sub-fits, mul-fits, element_fits)
