-- What a record is found to be depends on the state by its bounds alone.
use Rattle.std.specs.Prelude.{Err}
use mathlib.Core.Path.{◌≡◌, ap}
use mathlib.Core.Bool.{Bool, cond, not}
use mathlib.Core.List.{List}
use Prim.Native.Nat.{ℕ}
use lib.Dec.{eqb}
use lib.IntN.{ℤ}
use lib.ListN.{length}
use Rattle.tables.specs.Constants.{frame_size}
use Rattle.refusals.specs.Refusals.{found}
use Rattle.numbers.specs.declared.Refusal.TheVariants.{SampleLength, StateBounds}
use Rattle.state.specs.State.{in_bounds}
use Rattle.state.specs.declared.State.{State}
use Rattle.decoder.specs.Decoder.{examined}

-- two states of which both are in bounds, or neither
pub examined-same : (s t : State) (r : List ℕ) (x : List ℤ) → in_bounds s ≡ in_bounds t → examined s r x ≡ examined t r x
unfolding examined
examined-same s t r x h =
    let wrong = not (eqb (length x) frame_size) in
    ap (λ (b : Bool). cond wrong (Err SampleLength) (cond (not b) (Err StateBounds) (found r))) h
