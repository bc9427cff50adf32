-- What an acceptance says of the LSPs of its frame, received and erased frames alike (document 02, E2; proofs/Outcomes.antt). What each of the three then tells of gaps is stated in crate stability.
use Rattle.std.specs.Prelude.{Ok, ◌≡◌, List, ℤ, pos}
use Rattle.tables.specs.Constants.{lsp_minimum, lsp_minimum_erased}
use Rattle.stability.specs.Stability.{check_or_previous}
use Rattle.lsp.specs.Lsps.{extrapolated}
use Rattle.excitation.specs.declared.Rate.{Rate}
use Rattle.layout.specs.declared.LspForm.{LspForm}
use Rattle.refusals.specs.declared.Frame.TheVariants.{Erased, Received}
use Rattle.state.specs.declared.State.{State}
use Rattle.decoder.specs.Frame.{candidates_of}
use Rattle.decoder.specs.Decoder.{examined, answer_of}
use Rattle.theorems.specs.Call.{Item, next}

-- the outcome in the answer and the LSPs in the next state are those of one stabilising, of candidates c at minimum m
pub record StabilisedOnce (s : State) (i : Item) (m : ℤ) (c : List ℤ) : Type 0 where
  pub said : (answer_of s i.bytes i.samples).verdict ≡ Ok (check_or_previous m c s.prev_lsp).outcome
  pub stored : (next s i).prev_lsp ≡ (check_or_previous m c s.prev_lsp).lsps

-- of the record's candidates at 256, and of the extrapolated ones at 512
pub record OutcomeSaid : Type 0 where
  pub received :
      (s : State) (i : Item) (rate : Rate) (form : LspForm) → examined s i.bytes i.samples ≡ Ok (Received rate form)
      → StabilisedOnce s i (pos lsp_minimum) (candidates_of form i.bytes s.prev_lsp)
  pub erased :
      (s : State) (i : Item) → examined s i.bytes i.samples ≡ Ok Erased
      → StabilisedOnce s i (pos lsp_minimum_erased) (extrapolated s.prev_lsp)
