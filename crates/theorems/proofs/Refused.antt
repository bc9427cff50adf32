-- A refused record changes nothing, and a sequence has the samples of its accepted records alone.
use Rattle.std.specs.Prelude.{Result, Ok, Err}
use Rattle.numbers.specs.declared.Refusal.{Refusal}
use mathlib.Core.Path.{◌≡◌, refl, sym, ap, ◌∙◌, subst}
use mathlib.Core.Bool.{Bool, true, false, cond}
use mathlib.Core.List.{List, [], ◌∷◌}
use Prim.Native.Nat.{ℕ, suc}
use lib.Dec.{T}
use lib.IntN.{ℤ}
use lib.ListN.{length}
use Rattle.state.specs.declared.State.{State}
use Rattle.refusals.specs.declared.Frame.{Frame}
use Rattle.refusals.specs.declared.Frame.TheVariants.{Erased, Received}
use Rattle.decoder.specs.Decoder.{examined, answer_to, samples_to, samples_of}
use Rattle.theorems.specs.Call.{Item, next, is_accepted, accepted, after, accepted_samples, accepted_only}
use Rattle.theorems.specs.Refused.{RefusalKeeps, AcceptedAlone}

-- ---- one record

keeps :
    (f : Result Frame Refusal) (s : State) (r : List ℕ) (x : List ℤ) → is_accepted (answer_to f s r).verdict ≡ false
    → ((answer_to f s r).state ≡ s) × (samples_to f s r x ≡ x)
unfolding answer_to samples_to
keeps (Err n) s r x h = (refl, refl)
keeps (Ok Erased) s r x h = absurd (subst T h tt)
keeps (Ok (Received rate form)) s r x h = absurd (subst T h tt)

pub refusal_keeps : RefusalKeeps
refusal_keeps s i h = keeps (examined s i.bytes i.samples) s i.bytes i.samples h

-- ---- a sequence

-- xs has the samples and the last state that items have, and none of it is refused
abbrev AnsweredAs : State → List Item → List Item → Type 0
AnsweredAs s items xs = (accepted_samples s xs ≡ accepted_samples s items) × (after s xs ≡ after s items) × (length (accepted_samples s xs) ≡ length xs)

module _ (s : State) (i : Item) where
  abbrev first : List ℤ
  first = samples_of s i.bytes i.samples

  samples-by :
      {b : Bool} → accepted s i ≡ b → (is : List Item)
      → accepted_samples s (i ∷ is) ≡ cond b (first ∷ accepted_samples (next s i) is) (accepted_samples (next s i) is)
  unfolding accepted_samples
  samples-by h is = ap (λ (b : Bool). cond b (first ∷ accepted_samples (next s i) is) (accepted_samples (next s i) is)) h

  -- the record, in front of a sequence of which xs has the samples and the last state
  module _ (is xs : List Item) (k : AnsweredAs (next s i) is xs) where
    first-accepted : accepted s i ≡ true → AnsweredAs s (i ∷ is) (i ∷ xs)
    unfolding after
    first-accepted h =
        let with-samples : List (List ℤ) → List (List ℤ) = λ o. first ∷ o in
        (samples-by h xs ∙ ap with-samples k.0 ∙ sym (samples-by h is), k.1, ap length (samples-by h xs) ∙ ap suc k.2)

    first_refused : accepted s i ≡ false → AnsweredAs s (i ∷ is) xs
    unfolding after
    first_refused h =
        let same : s ≡ next s i = sym (refusal_keeps s i h).0 in
        let alike : accepted_samples s xs ≡ accepted_samples (next s i) xs = ap (λ (t : State). accepted_samples t xs) same in
        (alike ∙ k.0 ∙ sym (samples-by h is), ap (λ (t : State). after t xs) same ∙ k.1, ap length alike ∙ k.2)

    with_first : (b : Bool) → accepted s i ≡ b → AnsweredAs s (i ∷ is) (cond b (i ∷ xs) xs)
    with_first true h = first-accepted h
    with_first false h = first_refused h

pub accepted_alone : AcceptedAlone
unfolding accepted_samples after accepted_only
accepted_alone s [] = (refl, refl, refl)
accepted_alone s (i ∷ is) = with_first s i is (accepted_only (next s i) is) (accepted_alone (next s i) is) (accepted s i) refl
