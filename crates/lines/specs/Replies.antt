-- The answer to one line (document 01, "Program `frames`"): its number, the state after it, and its text.
use Rattle.std.specs.Prelude.{Bool, cond, ◌&&◌, List, [], ◌∷◌, ℕ, ◌+◌, ◌/◌, ◌%◌, leb, eqb, ℤ, pos, length, replicate}
use Rattle.tables.specs.Constants.{frame_size, line_max}
use Rattle.digits.specs.Digits.{has_pairs, bytes_of, sample_line}
use Rattle.state.specs.declared.State.{State}
use Rattle.decoder.specs.Decoder.{answer_of, first_number, samples_of}

-- the samples that are lent for a line
abbrev pub lent_samples : List ℤ
lent_samples = replicate frame_size (pos 0)

-- R, the two digits of the number and a newline
abbrev pub refusal_line : ℕ → List ℕ
refusal_line n = 82 ∷ (48 + n / 10) ∷ (48 + n % 10) ∷ 10 ∷ []

-- The answer where the line is a record of these bytes, or is none.
module _ (is_record : Bool) (bytes : List ℕ) (s : State) where
  -- its number: that of the decoder, 0 where the record is accepted; 11 where the line is none
  unfoldable pub number_for : ℕ
  number_for = cond is_record (first_number s bytes lent_samples) 11

  -- the state after it: 11 changes none
  unfoldable pub state_for : State
  state_for = cond is_record (answer_of s bytes lent_samples).state s

  -- its text: the samples, or the number
  unfoldable pub text_for : List ℕ
  text_for = cond (eqb number_for 0) (sample_line (samples_of s bytes lent_samples)) (refusal_line number_for)

-- A whole line is a record if it is digit pairs and has at most 1,098 characters.
abbrev pub is_record_line : List ℕ → Bool
is_record_line line = leb (length line) line_max && has_pairs line

-- The answer to a whole line, from state s.
module _ (s : State) (line : List ℕ) where
  abbrev pub line_number : ℕ
  line_number = number_for (is_record_line line) (bytes_of line) s

  abbrev pub line_state : State
  line_state = state_for (is_record_line line) (bytes_of line) s

  abbrev pub line_text : List ℕ
  line_text = text_for (is_record_line line) (bytes_of line) s
