-- A frame (document 01, "Adaptive part", "Erasure" and "Frame"; document 02, E1; the Rust's decode_params from its LSPs on, and decode_erased): LSPs, the excitation of four subframes, then their samples (crate output).
use Rattle.std.specs.Prelude.{cond, List, [], ◌∷◌, ℕ, ◌-◌, ℤ, pos, drop}
use Rattle.integers.specs.Base.{up}
use Rattle.tables.specs.Constants.{frame_size, classifier_history, lsp_minimum, lsp_minimum_erased, band0_place, band1_place, band2_place}
use Rattle.stability.specs.Stability.{check_or_previous}
use Rattle.stability.specs.declared.Stabilised.{Stabilised}
use Rattle.lsp.specs.Lsps.{decoded, extrapolated}
use Rattle.lpc.specs.Lpc.{frame_coefficients}
use Rattle.excitation.specs.Excitation.{subframe_place, with_subframe, in_turn, limited_sum, tap_sum_of, unvoiced_gain}
use Rattle.excitation.specs.declared.Subframe.{Subframe}
use Rattle.excitation.specs.declared.Subframe.TheVariants.{Zero, One, Two, Three}
use Rattle.adaptive.specs.Adaptive.{limited_lag, adaptive}
use Rattle.pitch.specs.Pitch.{unchanged, postfiltered}
use Rattle.excitation.specs.declared.Rate.{Rate}
use Rattle.output.specs.Output.{frame_output, frame_filters}
use Rattle.output.specs.declared.Filters.{Filters}
use Rattle.voicing.specs.Voicing.{voicing_of}
use Rattle.noise.specs.Noise.{next_run}
use Rattle.erasure.specs.Erasure.{erased_excitation}
use Rattle.reader.specs.Fields.{byte}
use Rattle.layout.specs.declared.LspForm.{LspForm}
use Rattle.layout.specs.declared.LspForm.TheVariants.{Values, Index}
use Rattle.record.specs.Record.{candidates, block_of}
use Rattle.record.specs.declared.Block.{Block}
use Rattle.widths.specs.Widths.{frame_signal, history_after}
use Rattle.state.specs.declared.State.{State}
use Rattle.decoder.specs.declared.LastFrame.{LastFrame}

-- ---- the input of the synthesis

-- f of each subframe
abbrev pub each_subframe : {A : Type 0} → (Subframe → A) → List A
each_subframe f = f Zero ∷ f One ∷ f Two ∷ f Three ∷ []

-- the excitation itself, in erased frames and with the postfilter off
abbrev pub plain_inputs : List ℤ → List (List ℤ)
plain_inputs x = each_subframe (λ s. unchanged x (subframe_place s))

-- through the pitch postfilter, around a lag for each
abbrev pub pitch_inputs : Rate → (Subframe → ℤ) → List ℤ → List (List ℤ)
pitch_inputs rate lag_of x = each_subframe (λ s. postfiltered x rate (subframe_place s) (limited_lag (lag_of s)))

-- ---- the end of a frame: its samples, and the next state

-- the memories before it
abbrev pub filters_of : State → Filters
filters_of s = record { syn_mem = s.syn_mem; pf = s.pf }

-- The frame's LSPs, and the inputs of its synthesis.
module _ (s : State) (lsps : List ℤ) (inputs : List (List ℤ)) where
  -- its 240 samples
  abbrev pub frame_samples : List ℤ
  frame_samples = frame_output s.postfilter (frame_coefficients s.prev_lsp lsps) inputs (filters_of s)

  -- the memories after it
  abbrev pub filters_last : Filters
  filters_last = frame_filters s.postfilter (frame_coefficients s.prev_lsp lsps) inputs (filters_of s)

  -- the next state, with its signal and what is stored for erased frames (record_last_frame)
  unfoldable pub frame_state : List ℤ → LastFrame → State
  frame_state signal last = record {
    prev_lsp = lsps;
    exc_hist = history_after signal;
    syn_mem = filters_last.syn_mem;
    pf = filters_last.pf;
    last_lag = last.last_lag;
    last_lag2 = last.last_lag2;
    last_taps_sum_q15 = last.last_taps_sum_q15;
    last_gain_unvoiced = last.last_gain_unvoiced;
    pcm_hist = drop (frame_size - classifier_history) frame_samples;
    erased_run = last.erased_run;
    postfilter = s.postfilter;
  }

-- ---- an erased frame (decode_erased)

module _ (s : State) where
  -- the extrapolated LSPs stabilised, or the previous ones
  abbrev pub erased_checked : Stabilised
  erased_checked = check_or_previous (pos lsp_minimum_erased) (extrapolated s.prev_lsp) s.prev_lsp

  abbrev pub erased_lsps : List ℤ
  erased_lsps = erased_checked.lsps

  -- voicing centres on the lag of subframe 2
  abbrev pub erased_signal : List ℤ
  erased_signal =
      erased_excitation (voicing_of s.pcm_hist (up s.last_lag2))
      s.last_taps_sum_q15 s.last_gain_unvoiced (next_run s.erased_run) (frame_signal s.exc_hist)

  -- all but the run stays
  abbrev pub erased_last : LastFrame
  erased_last = record {
    last_lag = s.last_lag;
    last_lag2 = s.last_lag2;
    last_taps_sum_q15 = s.last_taps_sum_q15;
    last_gain_unvoiced = s.last_gain_unvoiced;
    erased_run = next_run s.erased_run;
  }

  unfoldable pub erased_samples : List ℤ
  erased_samples = frame_samples s erased_lsps (plain_inputs erased_signal)

  unfoldable pub erased_state : State
  erased_state = frame_state s erased_lsps (plain_inputs erased_signal) erased_signal erased_last

-- ---- a received frame (decode_params), of candidate LSPs and the record's fields f after its head

-- the candidates of a record r: its ten values, or those of its index, which go by the previous LSPs
abbrev pub candidates_of : LspForm → List ℕ → List ℤ → List ℤ
candidates_of Values r previous = candidates r
candidates_of Index r previous = decoded (byte r band0_place) (byte r band1_place) (byte r band2_place) previous

-- stabilised, or the previous LSPs
abbrev pub received_checked : State → List ℤ → Stabilised
received_checked s candidates = check_or_previous (pos lsp_minimum) candidates s.prev_lsp

abbrev pub received_lsps : State → List ℤ → List ℤ
received_lsps s candidates = (received_checked s candidates).lsps

-- x with the excitation of a subframe, by its block: the adaptive part and the fixed vector
abbrev pub received_to : Block → List ℤ → Subframe → List ℤ
received_to b x k = with_subframe x (subframe_place k) (limited_sum (adaptive x (subframe_place k) (limited_lag b.lag) b.taps) b.fixed)

module _ (s : State) (rate : Rate) (f : List ℕ) where
  abbrev pub received_signal : List ℤ
  received_signal = in_turn (λ x k. received_to (block_of rate f k) x k) (frame_signal s.exc_hist)

  -- the pitch postfilter goes by base lags
  abbrev pub received_inputs : List (List ℤ)
  received_inputs = cond s.postfilter (pitch_inputs rate (λ k. (block_of rate f k).base_lag) received_signal) (plain_inputs received_signal)

  -- the lags of subframes 3 and 2, the tap sum of subframe 3, and the gains of subframes 2 and 3
  abbrev pub received_last : LastFrame
  received_last = record {
    last_lag = (block_of rate f Three).lag;
    last_lag2 = (block_of rate f Two).lag;
    last_taps_sum_q15 = tap_sum_of (block_of rate f Three).taps;
    last_gain_unvoiced = pos (unvoiced_gain (block_of rate f Two).gain_index (block_of rate f Three).gain_index);
    erased_run = 0;
  }

  unfoldable pub received_samples : List ℤ → List ℤ
  received_samples candidates = frame_samples s (received_lsps s candidates) received_inputs

  unfoldable pub received_state : List ℤ → State
  received_state candidates = frame_state s (received_lsps s candidates) received_inputs received_signal received_last
