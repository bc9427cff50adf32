-- What the private functions answer.
use Rattle.std.specs.Prelude.{Bool, cond, List, ℕ, eqb, ℤ, Result, Ok, Err}
use Rattle.std.specs.List.{position_or_len}
use Rattle.numbers.specs.Numbers.{number}
use Rattle.numbers.specs.declared.Refusal.{Refusal}
use Rattle.stability.specs.declared.Outcome.{Outcome}
use Rattle.decoder.specs.Decoder.{answer_of, samples_of}
use Rattle.digits.specs.Digits.{bytes_of, sample_line}
use Rattle.counts.specs.Counts.{counted}
use Rattle.state.specs.declared.State.{State}
use Rattle.lines.specs.Replies.{lent_samples, refusal_line, state_for, is_record_line}
use Rattle.lines.specs.Stream.{blank, characters, is_record, text_of}
use Rattle.lines.specs.declared.Line.{Line}
use Rattle.lines.specs.declared.Progress.{Progress}
use Rattle.lines.specs.declared.LineRefusal.{LineRefusal}
use Rattle.lines.specs.declared.LineRefusal.TheVariants.{Record, NoRecord}
use Rattle.lines.specs.declared.Reply.{Reply}

-- document 01's number of a line's refusal
abbrev pub refusal_number : LineRefusal → ℕ
refusal_number (Record r) = number r
refusal_number NoRecord = 11

-- the number of an answer, 0 for samples, and its text
abbrev pub answer_number : Result (List ℤ) LineRefusal → ℕ
answer_number (Ok samples) = 0
answer_number (Err r) = refusal_number r

abbrev pub answer_line : Result (List ℤ) LineRefusal → List ℕ
answer_line (Ok samples) = sample_line samples
answer_line (Err r) = refusal_line (refusal_number r)

-- the answer to a record by what the decoder says of it
abbrev pub answered : Result Outcome Refusal → List ℤ → Result (List ℤ) LineRefusal
answered (Ok outcome) samples = Ok samples
answered (Err r) samples = Err (Record r)

-- the answer to a line in its two parts
unfoldable pub reply_of : Bool → List ℕ → State → Reply
reply_of is_record bytes s = record {
  state = state_for is_record bytes s;
  answer = cond is_record (answered (answer_of s bytes lent_samples).verdict (samples_of s bytes lent_samples)) (Err NoRecord);
}

-- the answer to a line as it is kept
abbrev pub line_reply : Line → State → Reply
line_reply l s = reply_of (is_record l) (bytes_of (characters l)) s

-- the answer to a line's text
abbrev pub text_reply : List ℕ → State → Reply
text_reply text s = reply_of (is_record_line text) (bytes_of text) s

-- the progress that an answer makes, from the tallies before it, where n bytes were taken
abbrev pub progress_by : List ℕ → Reply → ℕ → Progress
progress_by tallies a n = record {
  stream = record { state = a.state; line = blank; tallies = counted tallies (answer_number a.answer) };
  text = text_of (answer_line a.answer);
  used = n;
}

-- the place of the first newline, or the length
unfoldable pub newline_at : List ℕ → ℕ
newline_at xs = position_or_len (λ b. eqb b 10) xs
