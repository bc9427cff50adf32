-- A state in bounds stays in bounds, whatever the record.
use Rattle.std.specs.Prelude.{Result, Ok, Err}
use Rattle.numbers.specs.declared.Refusal.{Refusal}
use mathlib.Core.Path.{◌≡◌, refl}
use mathlib.Core.Bool.{Bool, true, false, not, cond}
use mathlib.Core.List.{List, ◌∷◌}
use Prim.Native.Nat.{ℕ}
use lib.Dec.{eqb}
use lib.IntN.{ℤ}
use lib.ListN.{length}
use Rattle.integers.specs.Base.{up}
use Rattle.integers.specs.Linear.{line}
use Rattle.tables.specs.Constants.{frame_size, subframes_per_frame}
use Rattle.lpc.specs.Lpc.{frame_coefficients}
use Rattle.excitation.specs.declared.Subframe.TheVariants.{Two, Three}
use Rattle.excitation.proofs.Bounds.{tap_sum_bounds, unvoiced_gain-most}
use Rattle.excitation.specs.declared.Rate.{Rate}
use Rattle.noise.specs.Noise.{next_run}
use Rattle.voicing.specs.Voicing.{voicing_of}
use Rattle.layout.specs.Layout.{fields_of}
use Rattle.record.specs.Record.{block_of}
use Rattle.refusals.specs.Refusals.{found}
use Rattle.theorems.proofs.Accepted.{received_passed, Codes, codes}
use Rattle.numbers.specs.declared.Refusal.TheVariants.{SampleLength, StateBounds}
use Rattle.refusals.specs.declared.Frame.{Frame}
use Rattle.refusals.specs.declared.Frame.TheVariants.{Erased, Received}
use Rattle.state.specs.State.{last_lag_bounded, last_bounded, in_bounds}
use Rattle.state.specs.declared.State.{State}
use Rattle.state.proofs.Bounds as states
use Rattle.decoder.specs.Frame.{plain_inputs, filters_of, frame_state, erased_lsps, erased_signal, erased_last, erased_state}
use Rattle.decoder.specs.Frame.{candidates_of, received_lsps, received_signal, received_inputs, received_last, received_state}
use Rattle.decoder.specs.Decoder.{examined, answer_to}
use Rattle.decoder.specs.declared.LastFrame.{LastFrame}
use Rattle.theorems.specs.Bounds.{FreshInBounds, StaysInBounds}
use Rattle.theorems.proofs.Histories.{WordsTo, history-words, erased_words, received_words}
use Rattle.theorems.proofs.Memories.{memory_words}
use Rattle.theorems.proofs.Gains.{gain_frame}
use Rattle.theorems.proofs.Lags.{lag_bounds, lag2_bounds}

pub fresh_in_bounds : FreshInBounds
fresh_in_bounds = states.fresh_in_bounds

-- ---- the end of a frame

-- what is stored for erased frames is in bounds
abbrev LastIn : LastFrame → Type 0
LastIn last =
    states.AllLie (last_lag_bounded last.last_lag
    ∷ last_bounded last.last_lag2 last.last_taps_sum_q15 last.last_gain_unvoiced)

module _ (s : State) (h : in_bounds s ≡ true) where
  frame_in : (lsps signal : List ℤ) (inputs : List (List ℤ)) (last : LastFrame) → WordsTo 386 signal → LastIn last →
      in_bounds (frame_state s lsps inputs signal last) ≡ true
  unfolding frame_state
  frame_in lsps signal inputs last w l =
      let sets = frame_coefficients s.prev_lsp lsps in
      let before = filters_of s in
      states.bounds_from (frame_state s lsps inputs signal last)
      (history-words signal w)
      (memory_words s.postfilter sets inputs before)
      (gain_frame s.postfilter sets inputs before (states.numbers_of s h).0 subframes_per_frame, l)

  -- ---- an erased and a received frame

  erased_last_lem : LastIn (erased_last s)
  erased_last_lem = (states.numbers_of s h).1

  erased_in : in_bounds (erased_state s) ≡ true
  unfolding erased_state
  erased_in =
      let voicing = voicing_of s.pcm_hist (up s.last_lag2) in
      frame_in (erased_lsps s) (erased_signal s) (plain_inputs (erased_signal s)) (erased_last s)
      (erased_words voicing s.last_taps_sum_q15 s.last_gain_unvoiced (next_run s.erased_run) s.exc_hist)
      erased_last_lem

  module _ (rate : Rate) (f : List ℕ) (c : Codes f) where
    received_last_lem : LastIn (received_last s rate f)
    received_last_lem =
        let most = unvoiced_gain-most (block_of rate f Two).gain_index (block_of rate f Three).gain_index in
        let lag = lag_bounds rate f c.lag_b c.step_b in
        (lag, (lag2_bounds rate f c.lag_b, (tap_sum_bounds (block_of rate f Three).taps, (omega line, tt))))

    received_in : (candidates : List ℤ) → in_bounds (received_state s rate f candidates) ≡ true
    unfolding received_state
    received_in candidates =
        frame_in (received_lsps s candidates) (received_signal s rate f) (received_inputs s rate f) (received_last s rate f)
        (received_words (block_of rate f) s.exc_hist) received_last_lem

-- ---- a record

module _ (s : State) (h : in_bounds s ≡ true) (r : List ℕ) where
  found_in : (f : Result Frame Refusal) → found r ≡ f → in_bounds (answer_to f s r).state ≡ true
  unfolding answer_to
  found_in (Err n) e = h
  found_in (Ok Erased) e = erased_in s h
  found_in (Ok (Received rate form)) e =
      let f = fields_of form r in received_in s h rate f (codes rate f (received_passed r rate form e)) (candidates_of form r s.prev_lsp)

  -- by the tests of numbers 1 and 2
  tested_in : (a b : Bool) →
      in_bounds (answer_to (cond a (Err SampleLength) (cond b (Err StateBounds) (found r))) s r).state ≡ true
  unfolding answer_to
  tested_in true b = h
  tested_in false true = h
  tested_in false false = found_in (found r) refl

pub stays_in_bounds : StaysInBounds
unfolding examined
stays_in_bounds s i h = tested_in s h i.bytes (not (eqb (length i.samples) frame_size)) (not (in_bounds s))
