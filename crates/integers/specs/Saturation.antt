-- Laws of saturation, for every width at once.
use Rattle.std.specs.Prelude.{◌≡◌, true, false, ℕ, ◌+◌, ◌^◌, ◌≤◌, min, leb, ltb, ℤ, nat_abs, ◌-ℤ◌}
use Rattle.std.proofs.lemmas.Bool.Decides.{nat_tests}
use Rattle.std.proofs.Common.{sym, ◌∙◌, subst, lt_of_le_of_lt, leb→le, ltb→lt, to_z-of_z}
use Rattle.std.proofs.Math.Path.{ap}
use native.Mathlib.Omega.{arith}
use borrow.Author.Tests.{ltb-true, ltb-false}
use Rattle.std.proofs.Math.Dec.{T}
use Rattle.std.proofs.Math.IntN.{pos, negsuc}
use Rattle.std.specs.Int.Signed.{mag, lt_z}
use Rattle.std.specs.Int.{Width, int_max, int_min}
use mir.Val.{SFits, hbits, to_z, of_z}
use Rattle.integers.specs.Base.{saturated}
use Rattle.integers.specs.Linear.{distance_le, distance_ge}
use Rattle.integers.specs.Signed.{lt_z_back-left, lt_z_back-right}

-- ---- the number nearest in range

module _ (M : ℕ) where
  pub saturated-bound : (z : ℤ) → mag (saturated M z) ≤ M
  unfolding saturated
  saturated-bound (pos n) = omega arith
  saturated-bound (negsuc n) = omega arith

  -- no number in range is nearer
  pub saturated_nearest : (z y : ℤ) → mag y ≤ M → nat_abs (z -ℤ saturated M z) ≤ nat_abs (z -ℤ y)
  unfolding saturated
  saturated_nearest (pos n) (pos b) h =
      let g = distance_ge (pos n) (pos b) in
      distance_le (pos n) (pos (min n M)) (nat_abs (pos n -ℤ pos b)) (omega arith) (omega arith)
  saturated_nearest (pos n) (negsuc b) h =
      let g = distance_ge (pos n) (negsuc b) in
      distance_le (pos n) (pos (min n M)) (nat_abs (pos n -ℤ negsuc b)) (omega arith) (omega arith)
  saturated_nearest (negsuc n) (pos b) h =
      let g = distance_ge (negsuc n) (pos b) in
      distance_le (negsuc n) (negsuc (min n M)) (nat_abs (negsuc n -ℤ pos b)) (omega arith) (omega arith)
  saturated_nearest (negsuc n) (negsuc b) h =
      let g = distance_ge (negsuc n) (negsuc b) in
      distance_le (negsuc n) (negsuc (min n M)) (nat_abs (negsuc n -ℤ negsuc b)) (omega arith) (omega arith)

-- ---- its three cases

module _ (M : ℕ) where
  pub saturated_id : (z : ℤ) → mag z ≤ M → saturated M z ≡ z
  unfolding saturated
  saturated_id (pos n) h = ap pos (omega arith)
  saturated_id (negsuc n) h = ap negsuc (omega arith)

  pub saturated-above : (z : ℤ) → lt_z (pos M) z ≡ true → saturated M z ≡ pos M
  unfolding saturated
  saturated-above (pos n) h = ap pos (omega (arith, ltb-true M n h))
  saturated-above (negsuc n) h = absurd (subst T (sym h) tt)

  pub saturated-below : (z : ℤ) → lt_z z (negsuc M) ≡ true → saturated M z ≡ negsuc M
  unfolding saturated
  saturated-below (pos n) h = absurd (subst T (sym h) tt)
  saturated-below (negsuc n) h = ap negsuc (omega (arith, ltb-true M n h))

  pub saturated-between : (z : ℤ) → lt_z (pos M) z ≡ false → lt_z z (negsuc M) ≡ false → mag z ≤ M
  saturated-between (pos n) h k = ltb-false M n h
  saturated-between (negsuc n) h k = ltb-false M n k

-- a number of a type whose largest is at most M: `saturated-same 32767 f tt`
pub saturated-same : {w : Width} (M : ℕ) {z : ℤ} → SFits w z → T (leb (2 ^ hbits w) (M + 1)) → saturated M z ≡ z
saturated-same {w} M {z} f t = saturated_id M z (omega (arith, f.sfits, leb→le (2 ^ hbits w) (M + 1) t))

-- fits the type whose largest number is M: `saturated-fits 32767 z tt`
pub saturated-fits : {w : Width} (M : ℕ) (z : ℤ) → T (ltb M (2 ^ hbits w)) → SFits w (saturated M z)
saturated-fits {w} M z t = record { sfits = lt_of_le_of_lt (saturated-bound M z) (ltb→lt M (2 ^ hbits w) t) }

-- saturated to a wider range first: as if to the narrower at once
pub saturated-twice : (m M : ℕ) → m ≤ M → (z : ℤ) → saturated m (saturated M z) ≡ saturated m z
unfolding saturated
saturated-twice m M h (pos n) = ap pos (omega arith)
saturated-twice m M h (negsuc n) = ap negsuc (omega arith)

-- ---- code that saturates a number x of width w by std's clamp: `clamp-is 32767 f c.clamp.ensures.value`

clamped : (M : ℕ) (z : ℤ) → int_max (negsuc M) (int_min z (pos M)) ≡ saturated M z
unfolding saturated
clamped M (pos n) = grind (arith, nat_tests)
clamped M (negsuc n) = grind (arith, nat_tests)

pub clamp-is : {w : Width} (M : ℕ) {x r : ℤ} → SFits w x → r ≡ int_max (negsuc M) (int_min (to_z w (of_z w x)) (pos M)) → r ≡ saturated M x
clamp-is {w} M {x} f e = e ∙ clamped M (to_z w (of_z w x)) ∙ ap (saturated M) (to_z-of_z f)

-- ---- its three cases, told by x's bits at width w; in the last, x's bits at width w', whose largest number is M

module _ (w w' : Width) (M : ℕ) (m : T (ltb M (2 ^ hbits w'))) {x : ℤ} (f : SFits w x) where
  pub arm_above : lt_z (pos M) (to_z w (of_z w x)) ≡ true → pos M ≡ saturated M x
  arm_above h = sym (saturated-above M x (lt_z_back-right (pos M) true f h))

  pub arm_below : lt_z (to_z w (of_z w x)) (negsuc M) ≡ true → negsuc M ≡ saturated M x
  arm_below h = sym (saturated-below M x (lt_z_back-left (negsuc M) true f h))

  module _ (h : lt_z (pos M) (to_z w (of_z w x)) ≡ false) (k : lt_z (to_z w (of_z w x)) (negsuc M) ≡ false) where
    in_range : mag x ≤ M
    in_range = saturated-between M x (lt_z_back-right (pos M) false f h) (lt_z_back-left (negsuc M) false f k)

    pub arm_cast : SFits w' (to_z w (of_z w x))
    arm_cast = subst (SFits w') (sym (to_z-of_z f)) (record { sfits = lt_of_le_of_lt in_range (ltb→lt M (2 ^ hbits w') m) })

    pub arm_between : to_z w' (of_z w' (to_z w (of_z w x))) ≡ saturated M x
    arm_between = to_z-of_z arm_cast ∙ to_z-of_z f ∙ sym (saturated_id M x in_range)
