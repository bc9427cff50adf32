-- Laws of slots that ascend.
use mathlib.Core.Path.{◌≡◌, refl}
use mathlib.Core.Bool.{true}
use mathlib.Core.List.{List, [], ◌∷◌}
use Prim.Native.Nat.{ℕ, zero, suc, ◌≤◌, ◌<◌}
use native.Mathlib.Omega.{arith}
use borrow.Author.Tests.{le-leb, lt-ltb, leb-true, ltb-true}
use lib.Dec.{leb, ltb}
use lib.ListN.{length, get_or}
use Rattle.integers.specs.Truth.{both}
use Rattle.positions.specs.Packing.{follows, ascending}

-- ps ascend, and are at least lo
abbrev pub Ascends : ℕ → List ℕ → Type 0
Ascends lo ps = ascending lo ps ≡ true

pub ascends-none : (lo : ℕ) → Ascends lo []
unfolding ascending
ascends-none lo = refl

pub ascends_first : (lo p : ℕ) (ps : List ℕ) → Ascends lo (p ∷ ps) → (lo ≤ p) × (p < 30) × Ascends (suc p) ps
unfolding ascending
ascends_first lo p ps a =
    let l = both (follows lo p) (ascending (suc p) ps) a in
    let h = both (leb lo p) (ltb p 30) l.0 in
    (leb-true lo p h.0, ltb-true p 30 h.1, l.1)

pub ascends_cons : (lo p : ℕ) (ps : List ℕ) → lo ≤ p → p < 30 → Ascends (suc p) ps → Ascends lo (p ∷ ps)
unfolding ascending
ascends_cons lo p ps l h a = rw (le-leb lo p l, lt-ltb p 30 h) a

pub ascends-from : (a b : ℕ) (ps : List ℕ) → b ≤ a → Ascends a ps → Ascends b ps
ascends-from a b [] h k = ascends-none b
ascends-from a b (p ∷ ps) h k = let f = ascends_first a p ps k in let m : a ≤ p = f.0 in ascends_cons b p ps (omega arith) f.1 f.2

pub none_left : (i : ℕ) (ps : List ℕ) → 30 ≤ i → Ascends i ps → ps ≡ []
none_left i [] h a = refl
none_left i (p ∷ ps) h a = absurd (let f = ascends_first i p ps a in let m : i ≤ p = f.0 in let n : p < 30 = f.1 in let z : ⊥ = omega arith in z)

-- by the place in the list
pub slot_bounds : (lo : ℕ) (ps : List ℕ) (k : ℕ) → Ascends lo ps → k < length ps → (lo ≤ get_or ps k 0) × (get_or ps k 0 < 30)
slot_bounds lo [] k a h = absurd (omega arith)
slot_bounds lo (p ∷ ps) zero a h = let f = ascends_first lo p ps a in (f.0, f.1)
slot_bounds lo (p ∷ ps) (suc k) a h =
    let f = ascends_first lo p ps a in
    let b = slot_bounds (suc p) ps k f.2 (omega arith) in
    (let m : lo ≤ p = f.0 in omega (arith, b.0), b.1)

pub slot_order : (lo : ℕ) (ps : List ℕ) (i k : ℕ) → Ascends lo ps → i < k → k < length ps → get_or ps i 0 < get_or ps k 0
slot_order lo [] i k a h l = absurd (omega arith)
slot_order lo (p ∷ ps) i zero a h l = absurd (omega arith)
slot_order lo (p ∷ ps) zero (suc k) a h l = (slot_bounds (suc p) ps k (ascends_first lo p ps a).2 (omega arith)).0
slot_order lo (p ∷ ps) (suc i) (suc k) a h l = slot_order (suc p) ps i k (ascends_first lo p ps a).2 (omega arith) (omega arith)
