-- The state of the decoder (document 01, number 2 and "Frame"; the Rust's QSynthesis and QSynthesis::new). It is the code's struct, with the Rust's fields and widths; the Rust's clamp_syn_mem is always set.
use Rattle.std.specs.Prelude.{Bool, true, not, ◌&&◌, List, [], ◌∷◌, ℕ, zero, suc, ℤ, pos, negsuc, replicate}
use Rattle.std.specs.Int.Signed.{lt_z}
use Rattle.integers.specs.Base.{entry}
use Rattle.tables.specs.Constants.{lpc_order, exc_hist_size, classifier_history, pitch_min, fresh_lag, agc_one, agc_max, last_lag_min, last_lag_max, last_base_lag_max, tap_sum_max, unvoiced_gain_max}
use Rattle.tables.specs.Tables.{mean_lsps}
use Rattle.postfilter.specs.declared.Postfilter.{Postfilter}
use Rattle.state.specs.declared.State.{State}

-- ---- a fresh state (QSynthesis::new)

abbrev pub fresh_postfilter : Postfilter
fresh_postfilter = record {
  num_mem = replicate lpc_order (pos 0);
  den_mem = replicate lpc_order (pos 0);
  tilt_prev = pos 0;
  tilt_k1 = pos 0;
  agc_gain_q12 = pos agc_one;
}

-- with the postfilter on or off
unfoldable pub fresh_state : Bool → State
fresh_state on = record {
  prev_lsp = mean_lsps;
  exc_hist = replicate exc_hist_size (pos 0);
  syn_mem = replicate lpc_order (pos 0);
  pf = fresh_postfilter;
  last_lag = pos fresh_lag;
  last_lag2 = pos fresh_lag;
  last_taps_sum_q15 = pos 0;
  last_gain_unvoiced = pos 0;
  pcm_hist = replicate classifier_history (pos 0);
  erased_run = 0;
  postfilter = on;
}

-- ---- its bounds (number 2)

-- z is in lo ..= hi
abbrev pub between : ℤ → ℤ → ℤ → Bool
between lo hi z = not (lt_z z lo) && not (lt_z hi z)

-- the tests t 0, t 1, …, t (n - 1) hold
unfoldable pub all_to : (ℕ → Bool) → ℕ → Bool
all_to t zero = true
all_to t (suc n) = all_to t n && t n

-- the first n values are words of 16 bits
abbrev pub are_words : List ℤ → ℕ → Bool
are_words xs n = all_to (λ i. between (negsuc 32767) (pos 32767) (entry xs i)) n

-- a number, and the least and the most that it may be
pub record Bounded : Type 0 where
  pub value : ℤ
  pub least : ℤ
  pub most : ℤ

abbrev pub is_in_bounds : Bounded → Bool
is_in_bounds b = between b.least b.most b.value

abbrev pub are_in_bounds : List Bounded → Bool
are_in_bounds [] = true
are_in_bounds (b ∷ bs) = is_in_bounds b && are_in_bounds bs

-- the stored lag of subframe 3, and what else is stored of the last received frame: the lag of subframe 2, the tap sum and the unvoiced gain
abbrev pub last_lag_bounded : ℤ → Bounded
last_lag_bounded lag = record { value = lag; least = pos last_lag_min; most = pos last_lag_max }

abbrev pub last_bounded : ℤ → ℤ → ℤ → List Bounded
last_bounded lag2 tap_sum unvoiced =
    record { value = lag2; least = pos pitch_min; most = pos last_base_lag_max }
    ∷ record { value = tap_sum; least = pos 0; most = pos tap_sum_max }
    ∷ record { value = unvoiced; least = pos 0; most = pos unvoiced_gain_max }
    ∷ []

-- the fields that are numbers, the gain first
abbrev pub bounded_numbers : State → List Bounded
bounded_numbers s =
    record { value = s.pf.agc_gain_q12; least = pos 0; most = pos agc_max }
    ∷ last_lag_bounded s.last_lag
    ∷ last_bounded s.last_lag2 s.last_taps_sum_q15 s.last_gain_unvoiced

unfoldable pub in_bounds : State → Bool
in_bounds s = are_words s.exc_hist exc_hist_size && (are_words s.syn_mem lpc_order && are_in_bounds (bounded_numbers s))
