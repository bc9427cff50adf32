-- The ways out of the decoder: what was examined, and the answer, number and samples that follow from it.
use Rattle.std.specs.Prelude.{Result, Ok, Err}
use mathlib.Core.Path.{◌≡◌, refl, sym, ap, ◌∙◌}
use mathlib.Core.Bool.{Bool, true, false, not, cond}
use mathlib.Core.List.{List}
use Prim.Native.Nat.{ℕ}
use borrow.Author.Tests.{eq-eqb, ne_eqb}
use lib.Dec.{eqb}
use lib.ListN.{length}
use lib.IntN.{ℤ}
use Rattle.verdict.specs.Verdicts.{number_of}
use Rattle.excitation.specs.declared.Rate.{Rate}
use Rattle.layout.specs.Layout.{fields_of}
use Rattle.layout.specs.declared.LspForm.{LspForm}
use Rattle.refusals.specs.Refusals.{found, number_found}
use Rattle.numbers.specs.declared.Refusal.{Refusal}
use Rattle.numbers.specs.declared.Refusal.TheVariants.{SampleLength, StateBounds}
use Rattle.refusals.specs.declared.Frame.{Frame}
use Rattle.refusals.specs.declared.Frame.TheVariants.{Erased, Received}
use Rattle.state.specs.State.{in_bounds}
use Rattle.state.specs.declared.State.{State}
use Rattle.decoder.specs.Frame.{candidates_of, erased_checked, erased_samples, erased_state, received_checked, received_samples, received_state}
use Rattle.decoder.specs.Decoder.{examined, refusal, acceptance, answer_to, samples_to, answer_of, first_number, samples_of}
use Rattle.decoder.specs.declared.Answer.{Answer}
use Rattle.decoder.specs.declared.Bounded.{Bounded}

module _ (s : State) (r : List ℕ) (samples : List ℤ) where
  -- ---- what was examined

  -- by its two tests
  examined-by : (a b : Bool) → eqb (length samples) 240 ≡ a → in_bounds s ≡ b →
      examined s r samples ≡ cond (not a) (Err SampleLength) (cond (not b) (Err StateBounds) (found r))
  unfolding examined
  examined-by a b h g = λ i. cond (not (h i)) (Err SampleLength) (cond (not (g i)) (Err StateBounds) (found r))

  pub length_refused : (length samples ≡ 240 → ⊥) → examined s r samples ≡ Err SampleLength
  length_refused h = examined-by false (in_bounds s) (ne_eqb (length samples) 240 h) (λ i. in_bounds s)

  pub bounds_refused : length samples ≡ 240 → in_bounds s ≡ false → examined s r samples ≡ Err StateBounds
  bounds_refused h g = examined-by true false (eq-eqb (length samples) 240 h) g

  pub record_found_lem : length samples ≡ 240 → in_bounds s ≡ true → {k : Result Frame Refusal} → found r ≡ k → examined s r samples ≡ k
  record_found_lem h g e = examined-by true true (eq-eqb (length samples) 240 h) g ∙ e

  -- where the state has its bounds by its type
  pub bounded_found_lem : length samples ≡ 240 → (b : Bounded) → b.state ≡ s → {k : Result Frame Refusal} → found r ≡ k → examined s r samples ≡ k
  bounded_found_lem h b is e = record_found_lem h (sym (ap in_bounds is) ∙ b.within) e

  -- ---- what follows, of an answer a and samples o

  abbrev pub Promised : Answer → List ℤ → Type 0
  Promised a o =
      (a ≡ answer_of s r samples)
      × ((number_of a.verdict ≡ first_number s r samples) × (o ≡ samples_of s r samples))

  -- the answer and the samples, by what was examined
  pub answer-is : {k : Result Frame Refusal} → examined s r samples ≡ k → {a : Answer} → a ≡ answer_to k s r → a ≡ answer_of s r samples
  answer-is e p = p ∙ sym (ap (λ k. answer_to k s r) e)

  pub samples-are : {k : Result Frame Refusal} → examined s r samples ≡ k → {o : List ℤ} → o ≡ samples_to k s r samples → o ≡ samples_of s r samples
  samples-are e p = p ∙ sym (ap (λ k. samples_to k s r samples) e)

  -- a refusal
  pub refusal-is : {n : Refusal} → examined s r samples ≡ Err n → {a : Answer} → a ≡ refusal s n → a ≡ answer_of s r samples
  unfolding answer_to
  refusal-is e p = answer-is e p

  pub samples-kept : {n : Refusal} → examined s r samples ≡ Err n → samples ≡ samples_of s r samples
  unfolding samples_to
  samples-kept e = samples-are e refl

  -- the number
  number-to : (k : Result Frame Refusal) → number_of (answer_to k s r).verdict ≡ number_found k
  unfolding answer_to
  number-to (Err n) = refl
  number-to (Ok Erased) = refl
  number-to (Ok (Received rate form)) = refl

  pub number-is : {a : Answer} → a ≡ answer_of s r samples → number_of a.verdict ≡ first_number s r samples
  number-is p = ap (λ (a : Answer). number_of a.verdict) p ∙ number-to (examined s r samples)

  -- all three of each way out
  promised : (k : Result Frame Refusal) → examined s r samples ≡ k → {a : Answer} {o : List ℤ} →
      a ≡ answer_to k s r → o ≡ samples_to k s r samples → Promised a o
  promised k e p q = let a = answer-is e p in (a, (number-is a, samples-are e q))

  pub refused_promised : (n : Refusal) → examined s r samples ≡ Err n → {a : Answer} →
      a ≡ refusal s n → Promised a samples
  unfolding answer_to samples_to
  refused_promised n e p = promised (Err n) e p refl

  pub erased_promised : examined s r samples ≡ Ok Erased → {a : Answer} {o : List ℤ} →
      a ≡ acceptance (erased_checked s).outcome (erased_state s) → o ≡ erased_samples s → Promised a o
  unfolding answer_to samples_to
  erased_promised e p q = promised (Ok Erased) e p q

  abbrev read : LspForm → List ℤ
  read form = candidates_of form r s.prev_lsp

  pub received_promised : (rate : Rate) (form : LspForm) → examined s r samples ≡ Ok (Received rate form) → {a : Answer} {o : List ℤ} →
      a ≡ acceptance (received_checked s (read form)).outcome (received_state s rate (fields_of form r) (read form)) →
      o ≡ received_samples s rate (fields_of form r) (read form) → Promised a o
  unfolding answer_to samples_to
  received_promised rate form e p q = promised (Ok (Received rate form)) e p q
