-- Values of documents 01 and 02 for LSPs, by computation.
use mathlib.Core.Path.{◌≡◌, refl}
use mathlib.Core.Bool.{true}
use mathlib.Core.List.{List, [], ◌∷◌}
use lib.IntN.{ℤ, pos}
use Rattle.integers.specs.Base.{saturated}
use Rattle.stability.specs.Stability.{pass_to, any_to, pass_moves, passes, stabilised}
use Rattle.stability.specs.declared.Outcome.TheVariants.{Moved}

-- LSPs 1000, 1100, 2000, …, 9000 at minimum 256: the first two move, and they pass
pub stabilised-1000-1100 :
    stabilised (pos 256) (pos 1000 ∷ pos 1100 ∷ pos 2000 ∷ pos 3000 ∷ pos 4000 ∷ pos 5000 ∷ pos 6000 ∷ pos 7000 ∷ pos 8000 ∷ pos 9000 ∷ [])
    ≡ record {
      lsps = pos 922 ∷ pos 1178 ∷ pos 2000 ∷ pos 3000 ∷ pos 4000 ∷ pos 5000 ∷ pos 6000 ∷ pos 7000 ∷ pos 8000 ∷ pos 9000 ∷ [];
      outcome = Moved;
    }
unfolding saturated pass_to any_to passes
stabilised-1000-1100 = refl

-- LSPs of which the tenth pass still moves some at minimum 256, and which then have their gaps
abbrev ten : List ℤ
ten = pos 5053 ∷ pos 6614 ∷ pos 7004 ∷ pos 9275 ∷ pos 9801 ∷ pos 15491 ∷ pos 15507 ∷ pos 15573 ∷ pos 15920 ∷ pos 21501 ∷ []

pub tenth_moves : pass_moves (pos 256) (passes (pos 256) 9 ten) ≡ true
unfolding saturated pass_to any_to passes
tenth_moves = refl

pub moved-by-ten : (stabilised (pos 256) ten).outcome ≡ Moved
unfolding saturated pass_to any_to passes
moved-by-ten = refl
