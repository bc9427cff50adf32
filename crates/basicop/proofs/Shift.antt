-- Laws of the two shifts: for every largest number M, and in 16 bits, where a count beyond 15 does as 15.
use Rattle.std.specs.Prelude.{◌≡◌, true, false, ℕ, zero, suc, ◌*◌, ◌%◌, ◌^◌, ◌≤◌, ◌<◌, min, T, ℤ, pos, negsuc, nat_abs, neg_ℤ, ◌*ℤ◌}
use Rattle.std.proofs.Common.{refl, sym, ap, ◌∙◌, subst, ⊎_elim, lt_of_lt_of_le, le_trans, arith, SFits, to_z-of_z}
use native.Mathlib.Nat.{div-eq_of_lt, mod-eq_of_lt}
use borrow.Author.Tests.{ltb-false}
use lib.Pow.{pow_mono}
use Rattle.std.specs.Int.{w16, w32}
use Rattle.std.specs.Int.Signed.{mag, lt_z, mag_shr}
use Rattle.integers.specs.Base.{saturated, floor_div, Is}
use Rattle.integers.specs.Bound.{within-mul, within-fits, fits-within}
use Rattle.integers.specs.Saturation.{saturated_id}
use Rattle.integers.specs.Natural.{le-or-lt, none-below-zero}
use Rattle.basicop.specs.Operators.{scaled}

-- ---- a power as the code has it

module _ (n : ℕ) (h : n ≤ 15) where
  small : 2 ^ n ≤ 2 ^ 15
  small = pow_mono {i = n} {j = 15} h

  one_shifted : 1 * 2 ^ n % 2 ^ 32 ≡ 2 ^ n
  one_shifted = let e : 1 * 2 ^ n ≡ 2 ^ n = omega arith in let p = small in rw e (mod-eq_of_lt (omega (arith, p)))

  pub factor : Is w32 (1 * 2 ^ n % 2 ^ 32) (pos (2 ^ n))
  factor =
      let p = small in
      let f : SFits w32 (pos (1 * 2 ^ n % 2 ^ 32)) = record { sfits = rw one_shifted (omega (arith, p)) } in
      record { is = to_z-of_z {w = w32} f ∙ ap pos one_shifted }

  pub product-fits : (a : ℤ) → SFits w16 a → SFits w32 (a *ℤ pos (2 ^ n))
  product-fits a f = fits-within (within-mul (within-fits f) (record { within = small })) tt

pub power : (n : ℕ) → n < 15 → 1 * 2 ^ n % 2 ^ 32 ≡ 2 ^ n
power n h = one_shifted n (omega arith)

-- ---- a quotient by more than the number's size

pub floor_negative : (a : ℤ) (m : ℕ) → mag a < m → lt_z a (pos 0) ≡ true → negsuc 0 ≡ floor_div a m
floor_negative (pos n) m k h = none-below-zero n h
floor_negative (negsuc n) m k h = ap negsuc (sym (div-eq_of_lt k))

pub floor_nonneg : (a : ℤ) (m : ℕ) → mag a < m → lt_z a (pos 0) ≡ false → pos 0 ≡ floor_div a m
floor_nonneg (pos n) m k h = ap pos (sym (div-eq_of_lt k))
floor_nonneg (negsuc n) m k h = absurd (subst T h tt)

floor_same : (m k : ℕ) (a : ℤ) → mag a < m → mag a < k → floor_div a m ≡ floor_div a k
floor_same m k (pos n) h g = ap pos (div-eq_of_lt h ∙ sym (div-eq_of_lt g))
floor_same m k (negsuc n) h g = ap negsuc (div-eq_of_lt h ∙ sym (div-eq_of_lt g))

-- ---- a multiple by more than the largest number M: 0, or out of range

module _ (M : ℕ) where
  at_least : (m n : ℕ) → m ≤ suc n * m
  at_least m n = omega arith

  lowest : (k : ℕ) → M < k → negsuc M ≡ saturated M (neg_ℤ (pos k))
  unfolding saturated
  lowest zero h = absurd (let z : ⊥ = omega arith in z)
  lowest (suc k) h = ap negsuc (omega arith)

  times_same : (m k : ℕ) → M < m → M < k → (a : ℤ) → saturated M (a *ℤ pos m) ≡ saturated M (a *ℤ pos k)
  unfolding saturated
  times_same m k h g (pos zero) = ap pos (omega arith)
  times_same m k h g (pos (suc n)) = ap pos (omega (arith, at_least m n, at_least k n))
  times_same m k h g (negsuc n) = sym (lowest (suc n * m) (omega (arith, at_least m n))) ∙ lowest (suc n * k) (omega (arith, at_least k n))

module _ (M m : ℕ) (large : M < m) where
  pub times_positive : (a : ℤ) → lt_z (pos 0) a ≡ true → pos M ≡ saturated M (a *ℤ pos m)
  unfolding saturated
  times_positive (pos zero) h = none-below-zero 0 h
  times_positive (pos (suc n)) h = ap pos (omega (arith, at_least M m n))
  times_positive (negsuc n) h = absurd (subst T (sym h) tt)

  pub times_negative : (a : ℤ) → lt_z a (pos 0) ≡ true → negsuc M ≡ saturated M (a *ℤ pos m)
  times_negative (pos n) h = none-below-zero n h
  times_negative (negsuc n) h = lowest M (suc n * m) (omega (arith, at_least M m n))

  pub times_zero : (a : ℤ) → lt_z (pos 0) a ≡ false → lt_z a (pos 0) ≡ false → pos 0 ≡ saturated M (a *ℤ pos m)
  unfolding saturated
  times_zero (pos zero) h k = ap pos (omega arith)
  times_zero (pos (suc n)) h k = absurd (let j : suc n ≤ 0 = ltb-false 0 (suc n) h in let z : ⊥ = omega arith in z)
  times_zero (negsuc n) h k = absurd (subst T k tt)

-- ---- the shift, from the size of a count to the count

floor_one : (a : ℤ) → floor_div a 1 ≡ a
floor_one (pos n) = ap pos (omega arith)
floor_one (negsuc n) = ap negsuc (omega arith)

times_one : (a : ℤ) → a *ℤ pos 1 ≡ a
times_one (pos n) = ap pos (omega arith)
times_one (negsuc n) = let e : suc n * 1 ≡ suc n = omega arith in ap (λ (k : ℕ). neg_ℤ (pos k)) e

-- for every largest number M, with the whole count
module _ (M : ℕ) (a : ℤ) (fits : mag a ≤ M) where
  floor_kept : (m : ℕ) → floor_div a m ≡ saturated M (floor_div a m)
  floor_kept m = sym (saturated_id M (floor_div a m) (le_trans (mag_shr a m) fits))

  pub shl-down : (n : ℤ) → lt_z n (pos 0) ≡ true → floor_div a (2 ^ nat_abs n) ≡ saturated M (scaled a n)
  shl-down (pos n) h = none-below-zero n h
  shl-down (negsuc n) h = floor_kept (2 ^ suc n)

  pub shl-up : (n : ℤ) → lt_z n (pos 0) ≡ false → saturated M (a *ℤ pos (2 ^ nat_abs n)) ≡ saturated M (scaled a n)
  shl-up (pos n) h = refl
  shl-up (negsuc n) h = absurd (subst T h tt)

  pub shr-up : (n : ℤ) → lt_z n (pos 0) ≡ true → saturated M (a *ℤ pos (2 ^ nat_abs n)) ≡ saturated M (scaled a (neg_ℤ n))
  shr-up (pos n) h = none-below-zero n h
  shr-up (negsuc n) h = refl

  pub shr-down : (n : ℤ) → lt_z n (pos 0) ≡ false → floor_div a (2 ^ nat_abs n) ≡ saturated M (scaled a (neg_ℤ n))
  shr-down (pos zero) h = floor_one a ∙ sym (saturated_id M a fits) ∙ ap (saturated M) (sym (times_one a))
  shr-down (pos (suc n)) h = floor_kept (2 ^ suc n)
  shr-down (negsuc n) h = absurd (subst T h tt)

-- in 16 bits, with the count limited to 15
module _ (a : ℤ) (fits : mag a < 2 ^ 15) where
  floor_limited : (k : ℕ) → floor_div a (2 ^ min k 15) ≡ floor_div a (2 ^ k)
  floor_limited k =
      ⊎_elim (λ (h : k ≤ 15). let e : min k 15 ≡ k = omega arith in ap (λ (j : ℕ). floor_div a (2 ^ j)) e)
      (λ (h : 15 < k).
      let e : min k 15 ≡ 15 = omega arith in
      let p : 2 ^ 15 ≤ 2 ^ k = pow_mono {i = 15} {j = k} (omega arith) in
      ap (λ (j : ℕ). floor_div a (2 ^ j)) e ∙ floor_same (2 ^ 15) (2 ^ k) a fits (lt_of_lt_of_le fits p))
      (le-or-lt k 15)

  times_limited : (k : ℕ) → saturated 32767 (a *ℤ pos (2 ^ min k 15)) ≡ saturated 32767 (a *ℤ pos (2 ^ k))
  times_limited k =
      ⊎_elim (λ (h : k ≤ 15). let e : min k 15 ≡ k = omega arith in ap (λ (j : ℕ). saturated 32767 (a *ℤ pos (2 ^ j))) e)
      (λ (h : 15 < k).
      let e : min k 15 ≡ 15 = omega arith in
      let p : 2 ^ 15 ≤ 2 ^ k = pow_mono {i = 15} {j = k} (omega arith) in
      ap (λ (j : ℕ). saturated 32767 (a *ℤ pos (2 ^ j))) e ∙ times_same 32767 (2 ^ 15) (2 ^ k) (omega arith) (omega (arith, p)) a)
      (le-or-lt k 15)

  pub scaled-down : (n : ℤ) → lt_z n (pos 0) ≡ true → floor_div a (2 ^ min (nat_abs n) 15) ≡ saturated 32767 (scaled a n)
  scaled-down (pos n) h = none-below-zero n h
  scaled-down (negsuc n) h =
      let small : mag a ≤ 32767 = omega (arith, fits) in
      floor_limited (suc n) ∙ sym (saturated_id 32767 (floor_div a (2 ^ suc n)) (le_trans (mag_shr a (2 ^ suc n)) small))

  pub scaled-up : (n : ℤ) → lt_z n (pos 0) ≡ false → saturated 32767 (a *ℤ pos (2 ^ min (nat_abs n) 15)) ≡ saturated 32767 (scaled a n)
  scaled-up (pos n) h = times_limited n
  scaled-up (negsuc n) h = absurd (subst T h tt)
