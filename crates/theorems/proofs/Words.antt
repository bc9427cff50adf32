-- Lists of words of 16 bits.
use mathlib.Core.Path.{sym, subst}
use mathlib.Core.Logic.{⊎_elim}
use Prim.Native.Nat.{ℕ, ◌≤◌, ◌<◌}
use native.Mathlib.Omega.{arith}
use lib.ListN.{length, get_or-eq_default}
use lib.IntN.{ℤ, pos}
use mir.Syntax.{w16}
use mir.Val.{SFits}
use Rattle.integers.specs.Base.{entry, tabulate, AllFit}
use Rattle.integers.specs.Fill.{tabulate-at, tabulate-length}
use Rattle.integers.specs.Natural.{le-or-lt}
use Rattle.integers.specs.Saturation.{saturated-fits}
use Rattle.integers.specs.Signed.{zero-fits}
use Rattle.basicop.specs.Operators.{word16}

pub word_fits : (z : ℤ) → SFits w16 (word16 z)
word_fits z = saturated-fits 32767 z tt

-- past the end a list reads as 0
pub tabulate-fits : {f : ℕ → ℤ} (n : ℕ) → ((i : ℕ) → SFits w16 (f i)) → AllFit w16 (tabulate f n)
tabulate-fits {f} n h = record { at = λ i. ⊎_elim (past i) (within i) (le-or-lt n i) }
  where
    past : (i : ℕ) → n ≤ i → SFits w16 (entry (tabulate f n) i)
    past i p =
        let l : length (tabulate f n) ≤ i = omega (arith, tabulate-length f n) in
        subst (SFits w16) (sym (get_or-eq_default (tabulate f n) (pos 0) l)) (zero-fits w16)

    within : (i : ℕ) → i < n → SFits w16 (entry (tabulate f n) i)
    within i p = subst (SFits w16) (sym (tabulate-at f n i (pos 0) p)) (h i)
