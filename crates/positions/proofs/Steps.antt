-- The walk over the slots, one step at a time: before slot i there are 30 - i to be walked, after it 29 - i.
use mathlib.Core.Path.{◌≡◌, refl, ap}
use mathlib.Core.Bool.{Bool, true, false}
use mathlib.Core.List.{[], ◌∷◌}
use Prim.Native.Nat.{ℕ, zero, suc, ◌+◌, ◌-◌, ◌≤◌, ◌<◌}
use native.Mathlib.Omega.{arith}
use borrow.Author.Tests.{lt-ltb, le-ltb}
use Rattle.tables.specs.Rules.{choose}
use Rattle.positions.specs.Positions.{walk}

module _ (i : ℕ) (h : i < 30) where
  pub before_slot : 30 - i ≡ suc (29 - i)
  before_slot = omega arith

  pub after_slot : 30 - (i + 1) ≡ 29 - i
  after_slot = omega arith

-- ---- from a code to its slots

pub walk_done : (s c : ℕ) → walk s 0 c ≡ []
unfolding walk
walk_done zero c = refl
walk_done (suc s) c = refl

pub walk_hit : (s r c : ℕ) → c < choose s r → walk (suc s) (suc r) c ≡ (30 - suc s) ∷ walk s r c
unfolding walk
walk_hit s r c h =
    ap (λ (t : Bool). elim t [ true ↦ (30 - suc s) ∷ walk s r c | false ↦ walk s (suc r) (c - choose s r) ]) (lt-ltb c (choose s r) h)

pub walk_miss : (s r c : ℕ) → choose s r ≤ c → walk (suc s) (suc r) c ≡ walk s (suc r) (c - choose s r)
unfolding walk
walk_miss s r c h =
    ap (λ (t : Bool). elim t [ true ↦ (30 - suc s) ∷ walk s r c | false ↦ walk s (suc r) (c - choose s r) ]) (le-ltb c (choose s r) h)
