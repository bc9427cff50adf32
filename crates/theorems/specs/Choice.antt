-- Over received frames alone, two runs that differ in the postfilter choice keep equal LSPs, excitation history, lags, tap sum and unvoiced gain (document 01, "Frame"; proofs/Choice.antt).
use Rattle.std.specs.Prelude.{Result, Ok, Err, ◌≡◌, Bool, true, false, List, [], ◌∷◌}
use Rattle.numbers.specs.declared.Refusal.{Refusal}
use Rattle.refusals.specs.Refusals.{found}
use Rattle.refusals.specs.declared.Frame.{Frame}
use Rattle.refusals.specs.declared.Frame.TheVariants.{Erased, Received}
use Rattle.state.specs.State.{fresh_state, in_bounds}
use Rattle.state.specs.declared.State.{State}
use Rattle.theorems.specs.Call.{Item, after}

-- what two states have in common
pub record SameKept (s t : State) : Type 0 where
  pub lsps : s.prev_lsp ≡ t.prev_lsp
  pub history : s.exc_hist ≡ t.exc_hist
  pub lag : s.last_lag ≡ t.last_lag
  pub lag2 : s.last_lag2 ≡ t.last_lag2
  pub tap_sum : s.last_taps_sum_q15 ≡ t.last_taps_sum_q15
  pub gain : s.last_gain_unvoiced ≡ t.last_gain_unvoiced

abbrev pub is_erased : Result Frame Refusal → Bool
is_erased (Ok Erased) = true
is_erased (Ok (Received rate form)) = false
is_erased (Err n) = false

-- no record is an erased one
abbrev pub NoneErased : List Item → Type 0
NoneErased [] = Unit
NoneErased (i ∷ is) = (is_erased (found i.bytes) ≡ false) × NoneErased is

-- from any two states in bounds that have these in common, whatever else they differ in
abbrev pub KeptFrom : Type 0
KeptFrom =
    (s t : State) (items : List Item) → in_bounds s ≡ true → in_bounds t ≡ true → SameKept s t → NoneErased items
    → SameKept (after s items) (after t items)

-- from fresh states
abbrev pub PostfilterChoice : Type 0
PostfilterChoice = (items : List Item) → NoneErased items → SameKept (after (fresh_state true) items) (after (fresh_state false) items)
