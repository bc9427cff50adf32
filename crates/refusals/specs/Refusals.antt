-- Which of the numbers 3 to 10 a record gets (document 01, "The ten numbers, tested in this order"; document 02, E1). r is the record's bytes and f its fields after the head.
use Rattle.std.specs.Prelude.{◌≡◌, Result, Ok, Err, Bool, false, cond, not, ◌&&◌, ◌||◌, List, ℕ, zero, suc, ◌^◌, ltb, leb, eqb, length}
use Rattle.tables.specs.Constants.{kind_max, record_erased_bytes, record_high_bytes, record_low_bytes, record_high_index_bytes, record_low_index_bytes}
use Rattle.tables.specs.Constants.{lag_a_place, lag_b_place, step1_place, step3_place, lag_code_max, step_code_max, gain_index_max, flags_max, train_lag_limit}
use Rattle.positions.specs.Positions.{pulses}
use Rattle.excitation.specs.declared.Subframe.{Subframe}
use Rattle.excitation.specs.declared.Subframe.TheVariants.{Zero, One, Two, Three}
use Rattle.excitation.specs.declared.Rate.{Rate}
use Rattle.excitation.specs.declared.Rate.TheVariants.{High, Low}
use Rattle.reader.specs.Fields.{byte}
use Rattle.layout.specs.Layout.{fields_of}
use Rattle.layout.specs.declared.LspForm.{LspForm}
use Rattle.layout.specs.declared.LspForm.TheVariants.{Values, Index}
use Rattle.record.specs.Record.{base_lag_of, gain_index_of, flags, train, signs, count}
use Rattle.numbers.specs.Numbers.{number}
use Rattle.numbers.specs.declared.Refusal.{Refusal}
use Rattle.numbers.specs.declared.Refusal.TheVariants.{NoByte, Kind, Length, LagCode, StepCode, GainIndex, Flags, Signs}
use Rattle.refusals.specs.declared.Frame.{Frame}
use Rattle.refusals.specs.declared.Frame.TheVariants.{Erased, Received}

-- ---- what each number asks

-- 3: the record has no byte
abbrev pub no_byte : List ℕ → Bool
no_byte r = eqb (length r) 0

-- 4: the kind, byte 0, is above 4
abbrev pub wrong_kind : List ℕ → Bool
wrong_kind r = ltb kind_max (byte r 0)

-- 5: the length is not the kind's
abbrev pub record_bytes : ℕ → ℕ
record_bytes zero = record_erased_bytes
record_bytes (suc zero) = record_high_bytes
record_bytes (suc (suc zero)) = record_low_bytes
record_bytes (suc (suc (suc zero))) = record_high_index_bytes
record_bytes (suc (suc (suc (suc n)))) = record_low_index_bytes

abbrev pub wrong_length : List ℕ → Bool
wrong_length r = not (eqb (length r) (record_bytes (byte r 0)))

-- 6: a base lag code is above 127
abbrev pub wrong_lag_code : List ℕ → Bool
wrong_lag_code f = ltb lag_code_max (byte f lag_a_place) || ltb lag_code_max (byte f lag_b_place)

-- 7: a step code is above 3
abbrev pub wrong_step_code : List ℕ → Bool
wrong_step_code f = ltb step_code_max (byte f step1_place) || ltb step_code_max (byte f step3_place)

-- whether a test holds in a subframe
abbrev pub any_subframe : (Subframe → Bool) → Bool
any_subframe t = t Zero || (t One || (t Two || t Three))

-- the same of a test of what High alone has
abbrev pub any_high : Rate → (Subframe → Bool) → Bool
any_high High t = any_subframe t
any_high Low t = false

-- 8: a gain index is above 23
abbrev pub wrong_gain_index : Rate → List ℕ → Bool
wrong_gain_index rate f = any_subframe (λ s. ltb gain_index_max (gain_index_of rate f s))

-- 9, which High alone has: a flags byte is above 3, or train is set with a base lag of 58 or more
abbrev pub wrong_flags_in : List ℕ → Subframe → Bool
wrong_flags_in f s = ltb flags_max (flags f s) || (train f s && leb train_lag_limit (base_lag_of f s))

abbrev pub wrong_flags : Rate → List ℕ → Bool
wrong_flags rate f = any_high rate (wrong_flags_in f)

-- 10, which High alone has: a sign byte has a bit at or above the subframe's pulse count
abbrev pub wrong_signs_in : List ℕ → Subframe → Bool
wrong_signs_in f s = leb (2 ^ pulses (count s)) (signs f s)

abbrev pub wrong_signs : Rate → List ℕ → Bool
wrong_signs rate f = any_high rate (wrong_signs_in f)

-- ---- the first that applies

-- 6 to 10
unfoldable pub found_received : Rate → LspForm → List ℕ → Result Frame Refusal
found_received rate form f =
    cond (wrong_lag_code f) (Err LagCode) (cond (wrong_step_code f) (Err StepCode) (cond (wrong_gain_index rate f) (Err GainIndex)
    (cond (wrong_flags rate f) (Err Flags) (cond (wrong_signs rate f) (Err Signs) (Ok (Received rate form))))))

-- by its kind
unfoldable pub found_of : ℕ → List ℕ → Result Frame Refusal
found_of zero r = Ok Erased
found_of (suc zero) r = found_received High Values (fields_of Values r)
found_of (suc (suc zero)) r = found_received Low Values (fields_of Values r)
found_of (suc (suc (suc zero))) r = found_received High Index (fields_of Index r)
found_of (suc (suc (suc (suc n)))) r = found_received Low Index (fields_of Index r)

-- 3 to 5 before all else
unfoldable pub found : List ℕ → Result Frame Refusal
found r = cond (no_byte r) (Err NoByte) (cond (wrong_kind r) (Err Kind) (cond (wrong_length r) (Err Length) (found_of (byte r 0) r)))

-- ---- what each case says, in document 01's numbers

-- the number: that of the refusal, 0 where the record is accepted
abbrev pub number_found : Result Frame Refusal → ℕ
number_found (Ok Erased) = 0
number_found (Ok (Received rate form)) = 0
number_found (Err n) = number n

-- the kind of a received record
abbrev pub kind_of : Rate → LspForm → ℕ
kind_of High Values = 1
kind_of Low Values = 2
kind_of High Index = 3
kind_of Low Index = 4

-- the kind: byte 0 of a record that is accepted; a refused one may have any
abbrev pub IsKind : Result Frame Refusal → ℕ → Type 0
IsKind (Ok Erased) kind = kind ≡ 0
IsKind (Ok (Received rate form)) kind = kind ≡ kind_of rate form
IsKind (Err n) kind = Unit

-- a record's number: the first of 3 to 10 that applies, or 0
abbrev pub record_number : List ℕ → ℕ
record_number r = number_found (found r)
