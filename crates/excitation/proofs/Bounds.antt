-- Bounds of places and what is stored for erased frames.
use mathlib.Core.List.{List}
use Prim.Native.Nat.{ℕ, ◌≤◌}
use native.Mathlib.Omega.{arith}
use lib.Dec.{lit≤}
use lib.IntN.{ℤ, pos}
use lib.Signed.{◌≤ℤ◌}
use Rattle.tables.specs.Constants.{unvoiced_gain_max}
use Rattle.integers.specs.Limit.{limited_bounds}
use Rattle.tables.proofs.Rules.{gain-most}
use Rattle.excitation.specs.Excitation.{subframe_place, doubled_sum, tap_sum_of, unvoiced_gain}
use Rattle.excitation.specs.declared.Subframe.{Subframe}
use Rattle.excitation.specs.declared.Subframe.TheVariants.{Zero, One, Two, Three}

pub subframe_place_bounds : (s : Subframe) → (146 ≤ subframe_place s) × (subframe_place s ≤ 326)
subframe_place_bounds Zero = (lit≤ tt, lit≤ tt)
subframe_place_bounds One = (lit≤ tt, lit≤ tt)
subframe_place_bounds Two = (lit≤ tt, lit≤ tt)
subframe_place_bounds Three = (lit≤ tt, lit≤ tt)

pub tap_sum_bounds : (taps : List ℤ) → (pos 0 ≤ℤ tap_sum_of taps) × (tap_sum_of taps ≤ℤ pos 32767)
tap_sum_bounds taps = limited_bounds (pos 0) (pos 32767) (doubled_sum taps) (record { le = tt })

pub unvoiced_gain-most : (i j : ℕ) → unvoiced_gain i j ≤ unvoiced_gain_max
unvoiced_gain-most i j = omega (arith, gain-most i, gain-most j)
