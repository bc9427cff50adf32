-- What holds of a record that is received: none of the numbers 6 to 10 applies, and so its lag and step codes are in their limits, and of a High one the pulse descriptions are accepted ones.
use Rattle.std.specs.Prelude.{Result, Ok, Err}
use mathlib.Core.Path.{◌≡◌, refl, sym, ap, ◌∙◌, subst}
use mathlib.Core.Bool.{Bool, true, false, cond, ◌&&◌, ◌||◌}
use mathlib.Core.List.{List}
use Prim.Native.Nat.{ℕ, zero, suc, ◌^◌, ◌≤◌, ◌<◌}
use native.Mathlib.Omega.{arith}
use borrow.Author.Tests.{ltb-false, leb-false}
use lib.Dec.{ltb, leb}
use Rattle.tables.specs.Constants.{lag_a_place, lag_b_place, step1_place, step3_place, lag_code_max, step_code_max, gain_index_max, flags_max, train_lag_limit}
use Rattle.excitation.specs.declared.Rate.{Rate}
use Rattle.excitation.specs.declared.Rate.TheVariants.{High, Low}
use Rattle.positions.specs.Positions.{pulses}
use Rattle.vectors.specs.Vectors.{Accepted}
use Rattle.excitation.specs.declared.Subframe.{Subframe}
use Rattle.excitation.specs.declared.Subframe.TheVariants.{Zero, One, Two, Three}
use Rattle.reader.specs.Fields.{byte}
use Rattle.record.specs.Record.{base_lag_of, gain_index_of, train, count, description}
use Rattle.record.specs.Record.{flags as flags_of, signs as signs_of}
use Rattle.layout.specs.Layout.{fields_of}
use Rattle.layout.specs.declared.LspForm.{LspForm}
use Rattle.layout.specs.declared.LspForm.TheVariants.{Values, Index}
use Rattle.numbers.specs.declared.Refusal.{Refusal}
use Rattle.refusals.specs.declared.Frame.{Frame}
use Rattle.refusals.specs.declared.Frame.TheVariants.{Erased, Received}
use Rattle.refusals.specs.Refusals.{no_byte, wrong_kind, wrong_length, wrong_lag_code, wrong_step_code, wrong_gain_index, wrong_flags, wrong_signs}
use Rattle.refusals.specs.Refusals.{any_subframe, wrong_flags_in, wrong_signs_in, found_received, found_of, found}
use Rattle.integers.specs.Truth.{neither}

-- ---- the tests that it passed

pub record Passed (rate : Rate) (f : List ℕ) : Type 0 where
  pub lags : wrong_lag_code f ≡ false
  pub steps : wrong_step_code f ≡ false
  pub gains : wrong_gain_index rate f ≡ false
  pub flags : wrong_flags rate f ≡ false
  pub signs : wrong_signs rate f ≡ false

module _ (r : List ℕ) where
  abbrev AllPassed : Result Frame Refusal → Type 0
  AllPassed (Ok Erased) = Unit
  AllPassed (Ok (Received rate form)) = Passed rate (fields_of form r)
  AllPassed (Err n) = Unit

  -- a record that is found to be k passed all that k says
  record FoundToBe (k : Result Frame Refusal) : Type 0 where
    passed : AllPassed k

  -- a refusal says nothing, and where its test fails the rest has to hold
  refused_or : (b : Bool) (n : Refusal) {k : Result Frame Refusal} → (b ≡ false → FoundToBe k) → FoundToBe (cond b (Err n) k)
  refused_or true n h = record { passed = tt }
  refused_or false n h = h refl

  passed_fields : (rate : Rate) (form : LspForm) → FoundToBe (found_received rate form (fields_of form r))
  unfolding found_received
  passed_fields rate form =
      let f = fields_of form r in
      refused_or (wrong_lag_code f) _ (λ l. refused_or (wrong_step_code f) _ (λ s. refused_or (wrong_gain_index rate f) _
      (λ g. refused_or (wrong_flags rate f) _ (λ k. refused_or (wrong_signs rate f) _
      (λ n. record { passed = record { lags = l; steps = s; gains = g; flags = k; signs = n } })))))

  passed_kind : (kind : ℕ) → FoundToBe (found_of kind r)
  unfolding found_of
  passed_kind zero = record { passed = tt }
  passed_kind (suc zero) = passed_fields High Values
  passed_kind (suc (suc zero)) = passed_fields Low Values
  passed_kind (suc (suc (suc zero))) = passed_fields High Index
  passed_kind (suc (suc (suc (suc n)))) = passed_fields Low Index

  passed-found : FoundToBe (found r)
  unfolding found
  passed-found =
      refused_or (no_byte r) _ (λ _. refused_or (wrong_kind r) _ (λ _. refused_or (wrong_length r) _ (λ _. passed_kind (byte r 0))))

  pub received_passed : (rate : Rate) (form : LspForm) → found r ≡ Ok (Received rate form) → Passed rate (fields_of form r)
  received_passed rate form e = (subst FoundToBe e passed-found).passed

-- ---- its codes

pub record Codes (f : List ℕ) : Type 0 where
  pub lag_a : byte f lag_a_place ≤ lag_code_max
  pub lag_b : byte f lag_b_place ≤ lag_code_max
  pub step_a : byte f step1_place ≤ step_code_max
  pub step_b : byte f step3_place ≤ step_code_max

pub codes : (rate : Rate) (f : List ℕ) → Passed rate f → Codes f
codes rate f p =
    let lags = neither (ltb lag_code_max (byte f lag_a_place)) (ltb lag_code_max (byte f lag_b_place)) p.lags in
    let steps = neither (ltb step_code_max (byte f step1_place)) (ltb step_code_max (byte f step3_place)) p.steps in
    record {
      lag_a = ltb-false lag_code_max (byte f lag_a_place) lags.0;
      lag_b = ltb-false lag_code_max (byte f lag_b_place) lags.1;
      step_a = ltb-false step_code_max (byte f step1_place) steps.0;
      step_b = ltb-false step_code_max (byte f step3_place) steps.1;
    }

-- ---- the pulse descriptions of a High record

-- a test that holds in no subframe
none_in : (t : Subframe → Bool) → any_subframe t ≡ false → (k : Subframe) → t k ≡ false
none_in t h k = one k
  where
    first : (t Zero ≡ false) × ((t One || (t Two || t Three)) ≡ false)
    first = neither (t Zero) (t One || (t Two || t Three)) h

    second : (t One ≡ false) × ((t Two || t Three) ≡ false)
    second = neither (t One) (t Two || t Three) first.1

    third : (t Two ≡ false) × (t Three ≡ false)
    third = neither (t Two) (t Three) second.1

    one : (k : Subframe) → t k ≡ false
    one Zero = first.0
    one One = second.0
    one Two = third.0
    one Three = third.1

module _ (f : List ℕ) (p : Passed High f) (k : Subframe) where
  -- a train's base lag is below its limit
  train-lag : train f k ≡ true → base_lag_of f k < train_lag_limit
  train-lag t =
      let flags = none_in (wrong_flags_in f) p.flags k in
      let long = (neither (ltb flags_max (flags_of f k)) (train f k && leb train_lag_limit (base_lag_of f k)) flags).1 in
      leb-false train_lag_limit (base_lag_of f k) (sym (ap (λ (b : Bool). b && leb train_lag_limit (base_lag_of f k)) t) ∙ long)

  pub accepted-description : Accepted (description f k)
  accepted-description = record {
    gain_index = ltb-false gain_index_max (gain_index_of High f k) (none_in (λ s. ltb gain_index_max (gain_index_of High f s)) p.gains k);
    signs = leb-false (2 ^ pulses (count k)) (signs_of f k) (none_in (wrong_signs_in f) p.signs k);
    base_lag = λ t. (omega arith, train-lag t);
  }
