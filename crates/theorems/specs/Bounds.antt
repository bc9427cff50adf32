-- A state in bounds stays in bounds, whatever the record: number 2 is given to states from elsewhere alone (proofs/Bounds.antt).
use Rattle.std.specs.Prelude.{◌≡◌, Bool, true}
use Rattle.state.specs.State.{fresh_state, in_bounds}
use Rattle.state.specs.declared.State.{State}
use Rattle.theorems.specs.Call.{Item, next}

abbrev pub FreshInBounds : Type 0
FreshInBounds = (on : Bool) → in_bounds (fresh_state on) ≡ true

abbrev pub StaysInBounds : Type 0
StaysInBounds = (s : State) (i : Item) → in_bounds s ≡ true → in_bounds (next s i) ≡ true
