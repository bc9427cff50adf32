-- The size of a pulse, whatever its sign: the doubled gain, which is at most 13246.
use mathlib.Core.Path.{◌≡◌, refl, sym, ap, ◌∙◌, subst}
use mathlib.Core.Bool.{Bool, true, false, cond}
use Prim.Native.Nat.{ℕ, ◌/◌, ◌%◌, ◌^◌}
use native.Mathlib.Omega.{arith}
use lib.Dec.{eqb}
use lib.IntN.{ℤ, pos, neg_ℤ, nat_abs}
use mir.Syntax.{w32}
use mir.Val.{to_z, of_z}
use mir.Facts.{to_z-of_z}
use Rattle.tables.specs.Constants.{unvoiced_gain_max}
use Rattle.integers.specs.Base.{Within}
use Rattle.integers.specs.Bound.{abs_neg, fits-within}
use Rattle.tables.proofs.Rules.{gain-most}
use Rattle.pulses.specs.Pulses.{size, signed_by, pulse}
use Rattle.pulses.specs.declared.Description.{Description}

pub abs-signed : (z : ℤ) (s b : ℕ) → nat_abs (signed_by z s b) ≡ nat_abs z
abs-signed z s b = either (eqb (s / 2 ^ b % 2) 1)
  where
    either : (t : Bool) → nat_abs (cond t (neg_ℤ z) z) ≡ nat_abs z
    either true = abs_neg z
    either false = refl

pub abs-pulse : (d : Description) (k : ℕ) → nat_abs (pulse d k) ≡ size d
unfolding pulse
abs-pulse d k = abs-signed (pos (size d)) d.signs _

pub size-most : (d : Description) → Within unvoiced_gain_max (pos (size d))
size-most d = record { within = omega (arith, gain-most d.gain_index) }

pub signed-most : {z : ℤ} (s b : ℕ) → Within unvoiced_gain_max z → Within unvoiced_gain_max (signed_by z s b)
signed-most {z} s b w = record { within = rw (abs-signed z s b) w.within }

-- ---- as the code keeps them, in 32 bits

kept : {z : ℤ} → Within unvoiced_gain_max z → to_z w32 (of_z w32 z) ≡ z
kept w = to_z-of_z {w = w32} (fits-within w tt)

module _ (d : Description) {x : ℤ} (e : x ≡ pos (size d)) where
  size_kept : to_z w32 (of_z w32 x) ≡ pos (size d)
  size_kept = ap (λ (z : ℤ). to_z w32 (of_z w32 z)) e ∙ kept (size-most d)

  pub size-within : Within unvoiced_gain_max (to_z w32 (of_z w32 x))
  size-within = subst (Within unvoiced_gain_max) (sym size_kept) (size-most d)

  module _ {amp : ℤ} (b : ℕ) (q : amp ≡ signed_by (to_z w32 (of_z w32 x)) d.signs b) where
    signed : amp ≡ signed_by (pos (size d)) d.signs b
    signed = q ∙ ap (λ (z : ℤ). signed_by z d.signs b) size_kept

    small : Within unvoiced_gain_max amp
    small = subst (Within unvoiced_gain_max) (sym signed) (signed-most d.signs b (size-most d))

    pub amp-within : Within unvoiced_gain_max (to_z w32 (of_z w32 amp))
    amp-within = subst (Within unvoiced_gain_max) (sym (kept small)) small

    pub amp_is : to_z w32 (of_z w32 amp) ≡ signed_by (pos (size d)) d.signs b
    amp_is = kept small ∙ signed
