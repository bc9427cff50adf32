-- Values of the definitions, computed.
use mathlib.Core.Path.{◌≡◌, refl}
use mathlib.Core.Bool.{false}
use mathlib.Core.List.{List, [], ◌∷◌}
use lib.IntN.{ℤ, pos, negsuc}
use Rattle.integers.specs.Base.{sum_to}
use Rattle.correlation.specs.Correlation.{correlation}
use Rattle.lags.specs.Lags.{counts, unexceeded, first_unexceeded, best_of, chosen}
use Rattle.lags.specs.declared.Direction.TheVariants.{Forward, Backward}
use Rattle.std.specs.Prelude.{Some, None}

-- ---- the search

-- the subframe 1 2 at 2: c²/d is 16/9 at the lag 1 and 25/10 at 2
pub best_second : best_of (pos 1 ∷ pos 2 ∷ pos 1 ∷ pos 2 ∷ []) Backward 2 1 2 ≡ Some (record { lag = 2; c = 5; d = 10 })
unfolding counts unexceeded first_unexceeded correlation sum_to
best_second = refl

-- 16/9 at both: the first of equals
pub best_first : best_of (pos 0 ∷ pos 2 ∷ pos 1 ∷ pos 2 ∷ []) Backward 2 1 2 ≡ Some (record { lag = 1; c = 4; d = 9 })
unfolding counts unexceeded first_unexceeded correlation sum_to
best_first = refl

-- a correlation below 0
pub best_none : best_of (pos 1 ∷ negsuc 0 ∷ []) Backward 1 1 1 ≡ None
unfolding counts unexceeded first_unexceeded correlation sum_to
best_none = refl

-- samples that leave the frame by one
pub counts-not-past : (x : List ℤ) → counts x Forward 326 1 ≡ false
unfolding counts
counts-not-past x = refl

-- ---- the direction

-- equal floors: forward, though 49/10 is above 9/2
pub chosen_equal : chosen (Some (record { lag = 20; c = 3; d = 2 })) (Some (record { lag = 19; c = 7; d = 10 })) ≡ Some (record { to = Forward; best = record { lag = 20; c = 3; d = 2 } })
unfolding chosen
chosen_equal = refl

-- a larger floor
pub chosen_larger : chosen (Some (record { lag = 20; c = 3; d = 2 })) (Some (record { lag = 19; c = 5; d = 5 })) ≡ Some (record { to = Backward; best = record { lag = 19; c = 5; d = 5 } })
unfolding chosen
chosen_larger = refl
