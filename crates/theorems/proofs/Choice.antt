-- Over received frames LSPs and excitation follow from those before and the record, lags, tap sum and gain from the record.
use Rattle.std.specs.Prelude.{Result, Ok, Err}
use mathlib.Core.Path.{◌≡◌, refl, sym, ap, ◌∙◌, subst}
use mathlib.Core.Bool.{Bool, true, false, cond, not}
use mathlib.Core.List.{List, [], ◌∷◌}
use Prim.Native.Nat.{ℕ}
use lib.Dec.{T, eqb}
use lib.IntN.{ℤ, pos}
use lib.ListN.{length}
use Rattle.tables.specs.Constants.{frame_size, lsp_minimum}
use Rattle.stability.specs.Stability.{check_or_previous}
use Rattle.excitation.specs.Excitation.{in_turn}
use Rattle.excitation.specs.declared.Subframe.{Subframe}
use Rattle.excitation.specs.declared.Rate.{Rate}
use Rattle.layout.specs.Layout.{fields_of}
use Rattle.layout.specs.declared.LspForm.{LspForm}
use Rattle.record.specs.Record.{block_of}
use Rattle.record.specs.declared.Block.{Block}
use Rattle.refusals.specs.Refusals.{found}
use Rattle.refusals.specs.declared.Frame.{Frame}
use Rattle.refusals.specs.declared.Frame.TheVariants.{Erased, Received}
use Rattle.numbers.specs.declared.Refusal.{Refusal}
use Rattle.numbers.specs.declared.Refusal.TheVariants.{SampleLength, StateBounds}
use Rattle.widths.specs.Widths.{frame_signal, history_after}
use Rattle.state.specs.State.{fresh_state, in_bounds}
use Rattle.state.specs.declared.State.{State}
use Rattle.state.proofs.Bounds.{fresh_in_bounds}
use Rattle.decoder.specs.Frame.{frame_state, candidates_of, received_to, received_state}
use Rattle.decoder.specs.Decoder.{examined, answer_to}
use Rattle.theorems.specs.Call.{Item, next, after}
use Rattle.theorems.proofs.Bounds.{stays_in_bounds}
use Rattle.theorems.specs.Choice.{SameKept, is_erased, KeptFrom, PostfilterChoice}
use Rattle.theorems.proofs.Examined.{examined-same}

-- ---- one record

module _ (s t : State) (k : SameKept s t) (r : List ℕ) where
  kept_received : (rate : Rate) (form : LspForm) → let f = fields_of form r in
      SameKept (received_state s rate f (candidates_of form r s.prev_lsp)) (received_state t rate f (candidates_of form r t.prev_lsp))
  unfolding frame_state received_state
  kept_received rate form = record {
    lsps = ap (λ (p : List ℤ). (check_or_previous (pos lsp_minimum) (candidates_of form r p) p).lsps) k.lsps;
    history =
        let block : Subframe → Block = block_of rate (fields_of form r) in
        ap (λ (x : List ℤ). history_after (in_turn (λ y n. received_to (block n) y n) (frame_signal x))) k.history;
    lag = refl;
    lag2 = refl;
    tap_sum = refl;
    gain = refl;
  }

  kept-to : (f : Result Frame Refusal) → is_erased f ≡ false → SameKept (answer_to f s r).state (answer_to f t r).state
  unfolding answer_to
  kept-to (Err n) h = k
  kept-to (Ok Erased) h = absurd (subst T h tt)
  kept-to (Ok (Received rate form)) h = kept_received rate form

-- ---- what is found of it

refused_or : (b : Bool) (n : Refusal) (f : Result Frame Refusal) → is_erased f ≡ false → is_erased (cond b (Err n) f) ≡ false
refused_or true n f h = refl
refused_or false n f h = h

not_erased : (s : State) (r : List ℕ) (x : List ℤ) → is_erased (found r) ≡ false → is_erased (examined s r x) ≡ false
unfolding examined
not_erased s r x h =
    let rest = cond (not (in_bounds s)) (Err StateBounds) (found r) in
    refused_or (not (eqb (length x) frame_size)) SampleLength rest (refused_or (not (in_bounds s)) StateBounds (found r) h)

kept_next :
    (s t : State) (i : Item) → in_bounds s ≡ true → in_bounds t ≡ true → SameKept s t → is_erased (found i.bytes) ≡ false
    → SameKept (next s i) (next t i)
kept_next s t i a b k h =
    let r = i.bytes in
    let x = i.samples in
    subst (λ (f : Result Frame Refusal). SameKept (next s i) (answer_to f t r).state)
    (examined-same s t r x (a ∙ sym b)) (kept-to s t k r (examined s r x) (not_erased s r x h))

-- ---- a sequence, of which each state is in bounds

pub kept_from : KeptFrom
unfolding after
kept_from s t [] a b k n = k
kept_from s t (i ∷ is) a b k n =
    kept_from (next s i) (next t i) is (stays_in_bounds s i a) (stays_in_bounds t i b) (kept_next s t i a b k n.0) n.1

fresh_kept : SameKept (fresh_state true) (fresh_state false)
unfolding fresh_state
fresh_kept = record { lsps = refl; history = refl; lag = refl; lag2 = refl; tap_sum = refl; gain = refl }

pub postfilter_choice : PostfilterChoice
postfilter_choice items n =
    kept_from (fresh_state true) (fresh_state false) items (fresh_in_bounds true) (fresh_in_bounds false) fresh_kept n
