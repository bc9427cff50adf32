-- The gain before the first sample, and a sample later.
use mathlib.Core.Path.{◌≡◌, refl}
use Prim.Native.Nat.{ℕ, ◌+◌}
use native.Mathlib.Numerals.{add-one}
use lib.IntN.{ℤ}
use Rattle.postfilter.specs.Postfilter.{towards, gain_after}

module _ (t g : ℤ) where
  pub gain-zero : gain_after t g 0 ≡ g
  unfolding gain_after
  gain-zero = refl

  pub gain-step : (n : ℕ) → gain_after t g (n + 1) ≡ towards t (gain_after t g n)
  unfolding gain_after
  gain-step n = rw add-one
