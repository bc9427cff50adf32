-- Values by computation: a line of document 01's whole case, and the longest.
use mathlib.Core.Path.{◌≡◌, refl}
use mathlib.Core.List.{[], ◌∷◌}
use Prim.Native.Nat.{◌-◌, ◌^◌}
use lib.ListN.{length}
use Rattle.counts.specs.Counts.{most, decimal_in, decimal, count_line, counted}

-- N03 1
pub line_of_3 : count_line 3 1 ≡ 78 ∷ 48 ∷ 51 ∷ 32 ∷ 49 ∷ 10 ∷ []
unfolding count_line decimal_in
line_of_3 = refl

pub decimal_of_120 : decimal 120 ≡ 49 ∷ 50 ∷ 48 ∷ []
unfolding decimal_in
decimal_of_120 = refl

-- eleven lines of 25 fill a closing
pub longest_line : length (count_line 11 most) ≡ 25
unfolding count_line decimal_in
longest_line = refl

-- a tally stays at the greatest
pub counted-after-most : counted (0 ∷ most ∷ []) 1 ≡ 0 ∷ (2 ^ 64 - 1) ∷ []
counted-after-most = refl
