-- Values at the limits of document 01's numbers, by computation.
use mathlib.Core.Path.{◌≡◌, refl}
use mathlib.Core.List.{[], ◌∷◌}
use lib.IntN.{pos, negsuc}
use Rattle.tables.specs.Constants.{unvoiced_gain_max}
use Rattle.integers.specs.Base.{sum_to}
use Rattle.tables.specs.Tables.{gains}
use Rattle.excitation.specs.Excitation.{tap_sum_of, unvoiced_gain}

-- the largest gain, twice
pub gain_of_23 : unvoiced_gain 23 23 ≡ unvoiced_gain_max
unfolding gains
gain_of_23 = refl

-- taps of 1 and 1: their sum is above the largest
pub tap_sum-above : tap_sum_of (pos 16384 ∷ pos 16384 ∷ pos 0 ∷ pos 0 ∷ pos 0 ∷ []) ≡ pos 32767
unfolding sum_to
tap_sum-above = refl

pub tap_sum-below : tap_sum_of (negsuc 0 ∷ negsuc 1 ∷ negsuc 2 ∷ negsuc 3 ∷ negsuc 4 ∷ []) ≡ pos 0
unfolding sum_to
tap_sum-below = refl
