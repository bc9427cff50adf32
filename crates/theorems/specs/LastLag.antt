-- The stored lag of subframe 3 changes no sample and no other field of the state (document 01, "Erasure"; proofs/LastLag.antt).
use Rattle.std.specs.Prelude.{◌≡◌, true, List, ℤ}
use Rattle.state.specs.State.{is_in_bounds, last_lag_bounded, in_bounds}
use Rattle.state.specs.declared.State.{State}
use Rattle.decoder.specs.Decoder.{answer_of, samples_of}
use Rattle.theorems.specs.Call.{Item, next, after, accepted_samples}

-- a state with another stored lag of subframe 3
abbrev pub with_last_lag : ℤ → State → State
with_last_lag l s = record {
  prev_lsp = s.prev_lsp;
  exc_hist = s.exc_hist;
  syn_mem = s.syn_mem;
  pf = s.pf;
  last_lag = l;
  last_lag2 = s.last_lag2;
  last_taps_sum_q15 = s.last_taps_sum_q15;
  last_gain_unvoiced = s.last_gain_unvoiced;
  pcm_hist = s.pcm_hist;
  erased_run = s.erased_run;
  postfilter = s.postfilter;
}

-- a state in bounds, and a lag that leaves it there
pub record InBoundsWith (s : State) (l : ℤ) : Type 0 where
  pub state : in_bounds s ≡ true
  pub lag : is_in_bounds (last_lag_bounded l) ≡ true

-- over one record: verdict, samples, and each other field of the next state
abbrev pub LastLagUnread : Type 0
LastLagUnread =
    (s : State) (l : ℤ) (i : Item) → InBoundsWith s l
    → ((answer_of (with_last_lag l s) i.bytes i.samples).verdict ≡ (answer_of s i.bytes i.samples).verdict)
    × (samples_of (with_last_lag l s) i.bytes i.samples ≡ samples_of s i.bytes i.samples)
    × ((m : ℤ) → with_last_lag m (next (with_last_lag l s) i) ≡ with_last_lag m (next s i))

-- over any sequence of records
abbrev pub LastLagUnreadInCalls : Type 0
LastLagUnreadInCalls =
    (s : State) (l : ℤ) (items : List Item) → InBoundsWith s l
    → (accepted_samples (with_last_lag l s) items ≡ accepted_samples s items)
    × ((m : ℤ) → with_last_lag m (after (with_last_lag l s) items) ≡ with_last_lag m (after s items))
