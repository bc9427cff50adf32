-- No frame reads the stored lag of subframe 3: an erased one hands it on, and a received one sets it.
use Rattle.std.specs.Prelude.{Result, Ok, Err}
use Rattle.numbers.specs.declared.Refusal.{Refusal}
use mathlib.Core.Path.{◌≡◌, refl, sym, ap, ◌∙◌}
use mathlib.Core.Bool.{Bool, cond, ◌&&◌}
use mathlib.Core.List.{List, [], ◌∷◌}
use Prim.Native.Nat.{ℕ}
use lib.IntN.{ℤ}
use lib.ListN.{get_or, drop}
use Rattle.refusals.specs.declared.Frame.{Frame}
use Rattle.refusals.specs.declared.Frame.TheVariants.{Erased, Received}
use Rattle.state.specs.State.{is_in_bounds, are_in_bounds, last_lag_bounded, bounded_numbers, in_bounds}
use Rattle.state.specs.declared.State.{State}
use Rattle.state.proofs.Bounds.{is_history, is_memory, numbers_of}
use Rattle.state.proofs.Tests.{between_out}
use Rattle.decoder.specs.Frame.{frame_state, erased_samples, erased_state, received_samples, received_state}
use Rattle.decoder.specs.Decoder.{examined, answer_to, samples_to, answer_of, samples_of}
use Rattle.theorems.specs.Call.{Item, next, is_accepted, after, accepted_samples}
use Rattle.theorems.specs.LastLag.{with_last_lag, InBoundsWith, LastLagUnread, LastLagUnreadInCalls}
use Rattle.theorems.proofs.Examined.{examined-same}

abbrev is_lag : ℤ → Bool
is_lag l = is_in_bounds (last_lag_bounded l)

-- the state's lag and l are both in bounds, or neither
abbrev SameTest : State → ℤ → Type 0
SameTest s l = is_lag l ≡ is_lag s.last_lag

-- so are then the states
same_bounds : (s : State) (l : ℤ) → SameTest s l → in_bounds (with_last_lag l s) ≡ in_bounds s
unfolding in_bounds
same_bounds s l h =
    let rest = are_in_bounds (drop 2 (bounded_numbers s)) in
    let first = is_in_bounds (get_or (bounded_numbers s) 0 (last_lag_bounded l)) in
    λ i. is_history s && (is_memory s && (first && (h i && rest)))

same_test : (s : State) (l : ℤ) → InBoundsWith s l → SameTest s l
same_test s l k =
    let n = (numbers_of s k.state).1.0 in
    let b = last_lag_bounded s.last_lag in
    k.lag ∙ sym (between_out b.least b.most b.value n.0 n.1)

-- ---- what follows from what the record is found to be

module _ (s : State) (l : ℤ) (r : List ℕ) where
  verdict_to : (f : Result Frame Refusal) → (answer_to f (with_last_lag l s) r).verdict ≡ (answer_to f s r).verdict
  unfolding answer_to
  verdict_to (Err n) = refl
  verdict_to (Ok Erased) = refl
  verdict_to (Ok (Received rate form)) = refl

  samples-to : (x : List ℤ) (f : Result Frame Refusal) → samples_to f (with_last_lag l s) r x ≡ samples_to f s r x
  unfolding samples_to erased_samples received_samples
  samples-to x (Err n) = refl
  samples-to x (Ok Erased) = refl
  samples-to x (Ok (Received rate form)) = refl

  state-to :
      (f : Result Frame Refusal) (m : ℤ) → with_last_lag m (answer_to f (with_last_lag l s) r).state ≡ with_last_lag m (answer_to f s r).state
  unfolding answer_to frame_state erased_state received_state
  state-to (Err n) m = refl
  state-to (Ok Erased) m = refl
  state-to (Ok (Received rate form)) m = refl

  test_to : (f : Result Frame Refusal) → SameTest s l → SameTest (answer_to f s r).state (answer_to f (with_last_lag l s) r).state.last_lag
  unfolding answer_to frame_state erased_state received_state
  test_to (Err n) h = h
  test_to (Ok Erased) h = h
  test_to (Ok (Received rate form)) h = refl

-- ---- one record

module _ (s : State) (l : ℤ) (i : Item) (h : SameTest s l) where
  abbrev other : State
  other = with_last_lag l s

  found-same : examined other i.bytes i.samples ≡ examined s i.bytes i.samples
  found-same = examined-same other s i.bytes i.samples (same_bounds s l h)

  verdict_same : (answer_of other i.bytes i.samples).verdict ≡ (answer_of s i.bytes i.samples).verdict
  verdict_same =
      ap (λ (f : Result Frame Refusal). (answer_to f other i.bytes).verdict) found-same
      ∙ verdict_to s l i.bytes (examined s i.bytes i.samples)

  samples-same : samples_of other i.bytes i.samples ≡ samples_of s i.bytes i.samples
  samples-same =
      ap (λ (f : Result Frame Refusal). samples_to f other i.bytes i.samples) found-same
      ∙ samples-to s l i.bytes i.samples (examined s i.bytes i.samples)

  state-same : (m : ℤ) → with_last_lag m (next other i) ≡ with_last_lag m (next s i)
  state-same m =
      ap (λ (f : Result Frame Refusal). with_last_lag m (answer_to f other i.bytes).state) found-same
      ∙ state-to s l i.bytes (examined s i.bytes i.samples) m

  -- the lag that it then has
  abbrev next_lag : ℤ
  next_lag = (next other i).last_lag

  test_next : SameTest (next s i) next_lag
  test_next =
      ap (λ (f : Result Frame Refusal). is_lag (answer_to f other i.bytes).state.last_lag) found-same
      ∙ test_to s l i.bytes (examined s i.bytes i.samples) h

  state-next : next other i ≡ with_last_lag next_lag (next s i)
  state-next = state-same next_lag

pub last-lag_unread : LastLagUnread
last-lag_unread s l i k =
    let h = same_test s l k in (verdict_same s l i h, samples-same s l i h, state-same s l i h)

-- ---- a sequence

unread-in-calls :
    (s : State) (l : ℤ) (items : List Item) → SameTest s l
    → (accepted_samples (with_last_lag l s) items ≡ accepted_samples s items)
    × ((m : ℤ) → with_last_lag m (after (with_last_lag l s) items) ≡ with_last_lag m (after s items))
unfolding accepted_samples after
unread-in-calls s l [] h = (refl, λ m. refl)
unread-in-calls s l (i ∷ is) h =
    let to = state-next s l i h in
    let k = unread-in-calls (next s i) (next_lag s l i h) is (test_next s l i h) in
    let rest = ap (λ (t : State). accepted_samples t is) to ∙ k.0 in (
      λ j. cond (is_accepted (verdict_same s l i h j)) (samples-same s l i h j ∷ rest j) (rest j),
      λ m. ap (λ (t : State). with_last_lag m (after t is)) to ∙ k.1 m,
    )

pub last-lag_unread_in_calls : LastLagUnreadInCalls
last-lag_unread_in_calls s l items k = unread-in-calls s l items (same_test s l k)
