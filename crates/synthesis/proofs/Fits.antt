-- Lists of which each element fits a signed type: their front, and with one element more.
use mathlib.Core.List.{List, [], ◌∷◌}
use Prim.Native.Nat.{ℕ, zero, suc}
use lib.ListN.{take}
use lib.IntN.{ℤ}
use mir.Syntax.{Width}
use mir.Val.{SFits}
use Rattle.integers.specs.Base.{entry, AllFit}
use Rattle.integers.specs.Signed.{zero-fits}

each_take : (w : Width) (n : ℕ) (xs : List ℤ) → ((i : ℕ) → SFits w (entry xs i)) → (i : ℕ) → SFits w (entry (take n xs) i)
each_take w zero xs h i = zero-fits w
each_take w (suc n) [] h i = zero-fits w
each_take w (suc n) (x ∷ xs) h zero = h zero
each_take w (suc n) (x ∷ xs) h (suc i) = each_take w n xs (λ j. h (suc j)) i

pub all_fit-take : {w : Width} (n : ℕ) {xs : List ℤ} → AllFit w xs → AllFit w (take n xs)
all_fit-take {w} n {xs} f = record { at = each_take w n xs f.at }

each-cons : (w : Width) (y : ℤ) (xs : List ℤ) → SFits w y → ((i : ℕ) → SFits w (entry xs i)) → (i : ℕ) → SFits w (entry (y ∷ xs) i)
each-cons w y xs f h zero = f
each-cons w y xs f h (suc i) = h i

pub all_fit-cons : {w : Width} {y : ℤ} {xs : List ℤ} → SFits w y → AllFit w xs → AllFit w (y ∷ xs)
all_fit-cons {w} {y} {xs} f g = record { at = each-cons w y xs f g.at }
