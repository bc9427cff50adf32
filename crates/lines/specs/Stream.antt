-- What is carried from one piece of the input to the next, and what each piece adds to it and to the output: the code's structs.
use Rattle.std.specs.Prelude.{Bool, true, false, cond, not, ◌&&◌, ◌||◌, List, [], ◌∷◌, ◌++◌, ℕ, eqb, ltb, length, replicate}
use Rattle.tables.specs.Constants.{line_max, numbers_counted}
use Rattle.digits.specs.Digits.{has_pairs, bytes_of}
use Rattle.counts.specs.Counts.{counted}
use Rattle.state.specs.State.{fresh_state}
use Rattle.lines.specs.Replies.{number_for, state_for, text_for}
use Rattle.array_bytes.specs.ArrayBytes.{ArrayBytes}
use Rattle.lines.specs.declared.Line.{Line}
use Rattle.lines.specs.declared.Stream.{Stream}
use Rattle.lines.specs.declared.Progress.{Progress}

-- ---- a line that has not ended

-- one character more: it is kept where there is room for it
unfoldable pub pushed : Line → ℕ → Line
pushed l b =
    cond (ltb (length l.text.items) line_max)
    (record { text = record { items = l.text.items ++ (b ∷ []) }; over = l.over })
    (record { text = l.text; over = true })

-- the characters xs more
unfoldable pub pushed_all : Line → List ℕ → Line
pushed_all l [] = l
pushed_all l (b ∷ xs) = pushed_all (pushed l b) xs

-- none of it yet
abbrev pub blank : Line
blank = record { text = record { items = [] }; over = false }

-- its characters
abbrev pub characters : Line → List ℕ
characters l = l.text.items

-- it is a record: digit pairs, and not too long
abbrev pub is_record : Line → Bool
is_record l = not l.over && has_pairs (characters l)

-- there is something of it
abbrev pub is_begun : Line → Bool
is_begun l = ltb 0 (length (characters l)) || l.over

-- ---- from piece to piece

-- before the first
unfoldable pub fresh_stream : Stream
fresh_stream = record {
  state = fresh_state true;
  line = blank;
  tallies = replicate numbers_counted 0;
}

-- The end of a line: its answer, and what is carried on.
module _ (r : Stream) where
  abbrev pub end_number : ℕ
  end_number = number_for (is_record r.line) (bytes_of (characters r.line)) r.state

  unfoldable pub end_text : List ℕ
  end_text = text_for (is_record r.line) (bytes_of (characters r.line)) r.state

  unfoldable pub next_line : Stream
  next_line = record {
    state = state_for (is_record r.line) (bytes_of (characters r.line)) r.state;
    line = blank;
    tallies = counted r.tallies end_number;
  }

-- one byte
unfoldable pub with_byte : Stream → ℕ → Stream
with_byte r b = cond (eqb b 10) (next_line r) (record { state = r.state; line = pushed r.line b; tallies = r.tallies })

-- the bytes xs: what is carried after them, and the answers to the lines that end in them
unfoldable pub stream_after : Stream → List ℕ → Stream
stream_after r [] = r
stream_after r (b ∷ xs) = stream_after (with_byte r b) xs

unfoldable pub answers_from : Stream → List ℕ → List ℕ
answers_from r [] = []
answers_from r (b ∷ xs) = cond (eqb b 10) (end_text r) [] ++ answers_from (with_byte r b) xs

-- ---- what the functions answer

-- a text that is to be written
abbrev pub text_of : List ℕ → ArrayBytes
text_of l = record { items = l }

-- a piece of the input to its first newline, with it
unfoldable pub to_newline : List ℕ → List ℕ
to_newline [] = []
to_newline (b ∷ xs) = b ∷ cond (eqb b 10) [] (to_newline xs)

-- the end of a line
unfoldable pub ended_of : Stream → Progress
ended_of r = record { stream = next_line r; text = text_of (end_text r); used = 0 }

-- `feed`: a call takes the end of one line at most
unfoldable pub progress_of : Stream → List ℕ → Progress
progress_of r xs =
    let piece = to_newline xs in
    record { stream = stream_after r piece; text = text_of (answers_from r piece); used = length piece }

-- `finish`: the line that no newline ended, if there is anything of it
unfoldable pub finished : Stream → Progress
finished r = cond (is_begun r.line) (ended_of r) (record { stream = r; text = text_of []; used = 0 })

-- what the N lines of an input are made of: the tallies after its last line, which a newline need not end
abbrev pub printed_tallies : List ℕ → List ℕ
printed_tallies input = (finished (stream_after fresh_stream input)).stream.tallies
