-- The outcome that an acceptance says, and the LSPs that are stored: both by what the record is found to be.
use Rattle.std.specs.Prelude.{Result}
use Rattle.numbers.specs.declared.Refusal.{Refusal}
use mathlib.Core.Path.{◌≡◌, ap}
use Rattle.refusals.specs.declared.Frame.{Frame}
use Rattle.state.specs.declared.State.{State}
use Rattle.decoder.specs.Frame.{frame_state, erased_state, received_state}
use Rattle.decoder.specs.Decoder.{examined, answer_to, answer_of}
use Rattle.theorems.specs.Call.{Item, next}
use Rattle.theorems.specs.Outcomes.{OutcomeSaid}

module _ (s : State) (i : Item) {f : Result Frame Refusal} (e : examined s i.bytes i.samples ≡ f) where
  verdict_by : (answer_of s i.bytes i.samples).verdict ≡ (answer_to f s i.bytes).verdict
  verdict_by = ap (λ (g : Result Frame Refusal). (answer_to g s i.bytes).verdict) e

  lsps-by : (next s i).prev_lsp ≡ (answer_to f s i.bytes).state.prev_lsp
  lsps-by = ap (λ (g : Result Frame Refusal). (answer_to g s i.bytes).state.prev_lsp) e

pub outcome_said : OutcomeSaid
unfolding answer_to frame_state erased_state received_state
outcome_said = record {
  received = λ s i rate form e. record { said = verdict_by s i e; stored = lsps-by s i e };
  erased = λ s i e. record { said = verdict_by s i e; stored = lsps-by s i e };
}
