-- Document 01's whole case, computed from the definition of the output.
use Rattle.std.specs.Prelude.{Err}
use mathlib.Core.Path.{◌≡◌, ap}
use mathlib.Core.Bool.{Bool, true, cond, not}
use mathlib.Core.List.{List, [], ◌∷◌, ◌++◌}
use Prim.Native.Nat.{ℕ, min}
use Rattle.integers.specs.Base.{tabulate}
use Rattle.counts.specs.Counts.{how_many, most, decimal_in, count_line, count_lines, seen_below, closing}
use Rattle.refusals.specs.Refusals.{found_of, found, record_number, number_found}
use Rattle.numbers.specs.declared.Refusal.TheVariants.{StateBounds}
use Rattle.state.specs.State.{fresh_state, in_bounds}
use Rattle.state.specs.declared.State.{State}
use Rattle.decoder.specs.Decoder.{examined}
use Rattle.digits.specs.Digits.{is_digit, digit_value, are_digits, pairs_of}
use Rattle.lines.specs.Replies.{lent_samples, number_for, state_for}
use Rattle.whole.specs.Output.{lines_from, lines_of, numbers_from, answers_to}
use Rattle.whole.specs.Whole.{short_case, ShortCase}
use Rattle.theorems.specs.Call.{Item, next}
use Rattle.theorems.proofs.Bounds.{fresh_in_bounds, stays_in_bounds}

-- from a state in bounds, where number 2 is not given, a record has its own number
own-number : (s : State) (bytes : List ℕ) → in_bounds s ≡ true → number_for true bytes s ≡ record_number bytes
unfolding number_for examined
own-number s bytes h = ap (λ (b : Bool). number_found (cond (not b) (Err StateBounds) (found bytes))) h

-- ---- its lines are records of the bytes 0 and 9, and of none

-- lent the samples of a line
abbrev item : List ℕ → Item
item bytes = record { bytes = bytes; samples = lent_samples }

abbrev first : State
first = fresh_state true

abbrev second : State
second = next first (item (0 ∷ []))

abbrev third : State
third = next second (item (9 ∷ []))

first_in : in_bounds first ≡ true
first_in = fresh_in_bounds true

second_in : in_bounds second ≡ true
second_in = stays_in_bounds first (item (0 ∷ [])) first_in

third_in : in_bounds third ≡ true
third_in = stays_in_bounds second (item (9 ∷ [])) second_in

numbers : numbers_from (fresh_state true) (lines_of short_case) ≡ 0 ∷ 4 ∷ 3 ∷ []
unfolding tabulate lines_from numbers_from state_for is_digit digit_value are_digits pairs_of found found_of
numbers = λ i. own-number first (0 ∷ []) first_in i ∷ own-number second (9 ∷ []) second_in i ∷ own-number third [] third_in i ∷ []

-- ---- and the counts of these

pub short_case_lem : ShortCase
unfolding how_many decimal_in count_line count_lines seen_below
short_case_lem = ap (λ (ns : List ℕ). answers_to short_case ++ closing (λ n. min (how_many n ns) most)) numbers
