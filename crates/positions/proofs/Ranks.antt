-- Laws of `rank`, one slot at a time.
use mathlib.Core.Path.{◌≡◌, refl}
use mathlib.Core.List.{List, [], ◌∷◌}
use Prim.Native.Nat.{ℕ, zero, suc, ◌+◌, ◌-◌}
use borrow.Author.Tests.{eq-eqb, ne_eqb}
use lib.ListN.{length}
use Rattle.tables.specs.Rules.{choose}
use Rattle.positions.specs.Packing.{rank}

pub rank-none : (s : ℕ) → rank s [] ≡ 0
unfolding rank
rank-none zero = refl
rank-none (suc s) = refl

-- the slot of the first pulse, and one before it
pub rank_here : (s p : ℕ) (ps : List ℕ) → p ≡ 30 - suc s → rank (suc s) (p ∷ ps) ≡ rank s ps
unfolding rank
rank_here s p ps e = rw (eq-eqb p (30 - suc s) e)

pub rank_past : (s p : ℕ) (ps : List ℕ) → (p ≡ 30 - suc s → ⊥) → rank (suc s) (p ∷ ps) ≡ choose s (length ps) + rank s (p ∷ ps)
unfolding rank
rank_past s p ps n = rw (ne_eqb p (30 - suc s) n)
