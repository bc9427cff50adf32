-- The gain after a frame is in bounds where it was before.
use mathlib.Core.Bool.{Bool, true, false}
use mathlib.Core.List.{List, []}
use Prim.Native.Nat.{ℕ, zero, suc}
use lib.ListN.{get_or}
use lib.IntN.{ℤ, pos}
use lib.Signed.{◌≤ℤ◌}
use Rattle.tables.specs.Constants.{agc_max}
use Rattle.postfilter.specs.declared.Postfilter.{Postfilter}
use Rattle.postfilter.proofs.Bounds.{memory_gain}
use Rattle.output.specs.Output.{synthesis_of, filters_after, filters_at}
use Rattle.output.specs.declared.Filters.{Filters}

abbrev GainIn : Postfilter → Type 0
GainIn m = (pos 0 ≤ℤ m.agc_gain_q12) × (m.agc_gain_q12 ≤ℤ pos agc_max)

-- after a subframe
gain_subframe : (on : Bool) (a x : List ℤ) (f : Filters) → GainIn f.pf → GainIn (filters_after on a x f).pf
unfolding filters_after
gain_subframe true a x f h = memory_gain f.pf a (synthesis_of true a x f) h.0 h.1
gain_subframe false a x f h = h

-- after k of them
pub gain_frame : (on : Bool) (sets inputs : List (List ℤ)) (f : Filters) → GainIn f.pf → (k : ℕ) →
    GainIn (filters_at on sets inputs f k).pf
unfolding filters_at
gain_frame on sets inputs f h zero = h
gain_frame on sets inputs f h (suc k) =
    gain_subframe on (get_or sets k []) (get_or inputs k []) (filters_at on sets inputs f k) (gain_frame on sets inputs f h k)
