-- The program's calls give the whole output, its tallies are the counts, and these ascend: the theorems of specs/Whole.antt.
use mathlib.Core.Path.{◌≡◌, refl, sym, ap, ◌∙◌}
use mathlib.Core.Bool.{true, false}
use mathlib.Core.List.{List, [], ◌∷◌, ◌++◌, append_assoc, append-nil}
use mathlib.Core.Logic.{⊎_elim}
use Prim.Native.Nat.{ℕ, ◌≤◌, ◌<◌}
use native.Mathlib.Omega.{arith}
use lib.Dec.{eqb}
use lib.ListN.{length, get_or, replicate, length-replicate, get_or-replicate, get_or-eq_default}
use borrow.Author.Tests.{lt-ltb, le-ltb}
use Rattle.integers.specs.Natural.{le-or-lt}
use Rattle.tables.specs.Constants.{numbers_counted}
use Rattle.counts.specs.Counts.{counted, tally, closing}
use Rattle.counts.proofs.Ascending.{ascending_lines}
use Rattle.state.specs.State.{fresh_state}
use Rattle.state.specs.declared.State.{State}
use Rattle.lines.specs.Replies.{line_number, line_state, line_text}
use Rattle.whole.specs.Output.{lines_from, lines_of, text_from, numbers_from, answers_to, printed_count}
use Rattle.lines.specs.Stream.{pushed, blank, is_begun, text_of, fresh_stream, end_number, end_text, next_line, stream_after, answers_from, ended_of, finished}
use Rattle.lines.specs.Parts.{answer_number, answer_line, line_reply, text_reply}
use Rattle.whole.specs.Whole.{written, written_counts, pieces_text, joined, last_progress, OutputOfPieces, PrintedCounts, OutputAscends}
use Rattle.lines.specs.declared.Line.{Line}
use Rattle.lines.specs.declared.Stream.{Stream}
use Rattle.lines.specs.declared.Progress.{Progress}
use Rattle.digits.proofs.Characters.{either}
use Rattle.lines.proofs.Feeding.{with_line, byte-ends, byte-pushed}
use Rattle.lines.proofs.Cuts.{nothing-carried}
use Rattle.lines.proofs.Texts.{reply-state, reply-number, reply-text, finish_begun, finish_none}
use Rattle.lines.proofs.Kept.{kept, kept-pushed, kept_reply, kept_begun}
use Rattle.whole.proofs.Pieces.{no_answer, pieces_text_lem, pieces_stream_lem}
use Rattle.whole.proofs.Tallied.{counted_all, none_above, tallied}

-- ---- a line's end, where r keeps the characters of the line

module _ (r : Stream) (line : List ℕ) (k : r.line ≡ kept line) where
  same : line_reply r.line r.state ≡ text_reply line r.state
  same = ap (λ (l : Line). line_reply l r.state) k ∙ kept_reply line r.state

  pub number_same : end_number r ≡ line_number r.state line
  number_same = sym (reply-number _ _ r.state) ∙ (λ i. answer_number (same i).answer) ∙ reply-number _ _ r.state

  pub state-same : (next_line r).state ≡ line_state r.state line
  unfolding next_line
  state-same = sym (reply-state _ _ r.state) ∙ (λ i. (same i).state) ∙ reply-state _ _ r.state

  pub text_same : end_text r ≡ line_text r.state line
  unfolding end_text
  text_same = sym (reply-text _ _ r.state) ∙ (λ i. answer_line (same i).answer) ∙ reply-text _ _ r.state

-- ---- the definitions, one line or one byte on

lines_none : (line : List ℕ) → length line ≤ 0 → lines_from line [] ≡ []
unfolding lines_from
lines_none line h = rw (le-ltb 0 (length line) h)

lines_last : (line : List ℕ) → 0 < length line → lines_from line [] ≡ line ∷ []
unfolding lines_from
lines_last line h = rw (lt-ltb 0 (length line) h)

lines_end : (line : List ℕ) (b : ℕ) (xs : List ℕ) → eqb b 10 ≡ true → lines_from line (b ∷ xs) ≡ line ∷ lines_from [] xs
unfolding lines_from
lines_end line b xs h = rw h

lines_char : (line : List ℕ) (b : ℕ) (xs : List ℕ) → eqb b 10 ≡ false → lines_from line (b ∷ xs) ≡ lines_from (line ++ (b ∷ [])) xs
unfolding lines_from
lines_char line b xs h = rw h

answers_end : (r : Stream) (b : ℕ) (xs : List ℕ) → eqb b 10 ≡ true → answers_from r (b ∷ xs) ≡ end_text r ++ answers_from (next_line r) xs
unfolding answers_from
answers_end r b xs h = rw h (ap (λ (q : Stream). end_text r ++ answers_from q xs) (byte-ends r b h))

answers_char : (r : Stream) (b : ℕ) (xs : List ℕ) → eqb b 10 ≡ false → answers_from r (b ∷ xs) ≡ answers_from (with_line r (pushed r.line b)) xs
unfolding answers_from
answers_char r b xs h = rw h (ap (λ (q : Stream). answers_from q xs) (byte-pushed r b h))

after_end : (r : Stream) (b : ℕ) (xs : List ℕ) → eqb b 10 ≡ true → stream_after r (b ∷ xs) ≡ stream_after (next_line r) xs
unfolding stream_after
after_end r b xs h = ap (λ (q : Stream). stream_after q xs) (byte-ends r b h)

after_char : (r : Stream) (b : ℕ) (xs : List ℕ) → eqb b 10 ≡ false → stream_after r (b ∷ xs) ≡ stream_after (with_line r (pushed r.line b)) xs
unfolding stream_after
after_char r b xs h = ap (λ (q : Stream). stream_after q xs) (byte-pushed r b h)

-- the tallies after lines
abbrev counted_of : List ℕ → State → List (List ℕ) → List ℕ
counted_of ts s ls = counted_all ts (numbers_from s ls)

answers-cons : (s : State) (l : List ℕ) (ls : List (List ℕ)) → text_from s (l ∷ ls) ≡ line_text s l ++ text_from (line_state s l) ls
unfolding text_from
answers-cons s l ls = refl

counted-cons : (ts : List ℕ) (s : State) (l : List ℕ) (ls : List (List ℕ)) → counted_of ts s (l ∷ ls) ≡ counted_of (counted ts (line_number s l)) (line_state s l) ls
unfolding counted_all numbers_from
counted-cons ts s l ls = refl

no_answers : (s : State) → text_from s [] ≡ []
unfolding text_from
no_answers s = refl

none-counted : (ts : List ℕ) (s : State) → counted_of ts s [] ≡ ts
unfolding counted_all numbers_from
none-counted ts s = refl

next-tallies : (r : Stream) → (next_line r).tallies ≡ counted r.tallies (end_number r)
unfolding next_line
next-tallies r = refl

next-line : (r : Stream) → (next_line r).line ≡ blank
unfolding next_line
next-line r = refl

ended-text : (r : Stream) → written (ended_of r) ≡ end_text r
unfolding ended_of
ended-text r = refl

ended-tallies : (r : Stream) → (ended_of r).stream.tallies ≡ counted r.tallies (end_number r)
unfolding ended_of
ended-tallies r = next-tallies r

-- ---- the bytes xs after it

record Comes (r : Stream) (line xs : List ℕ) : Type 0 where
  text : answers_from r xs ++ written (finished (stream_after r xs)) ≡ text_from r.state (lines_from line xs)
  tallies : (finished (stream_after r xs)).stream.tallies ≡ counted_of r.tallies r.state (lines_from line xs)

-- none: the line is answered if there is anything of it
comes_some : (r : Stream) (line : List ℕ) → r.line ≡ kept line → 0 < length line → Comes r line []
comes_some r line k h =
    let b : is_begun r.line ≡ true = ap is_begun k ∙ kept_begun line ∙ lt-ltb 0 (length line) h in
    let f : finished (stream_after r []) ≡ ended_of r = ap finished (nothing-carried r [] (omega arith)) ∙ sym (finish_begun r (ended_of r) b refl) in
    let s = r.state in
    record {
      text =
          (λ i. no_answer r [] (omega arith) i ++ written (f i)) ∙ ended-text r ∙ text_same r line k ∙ sym (append-nil (line_text s line))
          ∙ ap (λ (l : List ℕ). line_text s line ++ l) (sym (no_answers (line_state s line))) ∙ sym (answers-cons s line []) ∙ ap (text_from s) (sym (lines_last line h));
      tallies =
          ap (λ (d : Progress). d.stream.tallies) f ∙ ended-tallies r ∙ ap (counted r.tallies) (number_same r line k)
          ∙ sym (none-counted (counted r.tallies (line_number s line)) (line_state s line)) ∙ sym (counted-cons r.tallies s line [])
          ∙ ap (counted_of r.tallies s) (sym (lines_last line h));
    }

comes-none : (r : Stream) (line : List ℕ) → r.line ≡ kept line → length line ≤ 0 → Comes r line []
comes-none r line k h =
    let b : is_begun r.line ≡ false = ap is_begun k ∙ kept_begun line ∙ le-ltb 0 (length line) h in
    let f = ap finished (nothing-carried r [] (omega arith)) ∙ sym (finish_none r (text_of []) b refl) in
    record {
      text = (λ i. no_answer r [] (omega arith) i ++ written (f i)) ∙ sym (no_answers r.state) ∙ ap (text_from r.state) (sym (lines_none line h));
      tallies = ap (λ (d : Progress). d.stream.tallies) f ∙ sym (none-counted r.tallies r.state) ∙ ap (counted_of r.tallies r.state) (sym (lines_none line h));
    }

comes_end : (r : Stream) (line : List ℕ) (b : ℕ) (xs : List ℕ) → r.line ≡ kept line → eqb b 10 ≡ true → Comes (next_line r) [] xs → Comes r line (b ∷ xs)
comes_end r line b xs k h c =
    let s = r.state in
    let n = next_line r in
    record {
      text =
          (λ i. answers_end r b xs h i ++ written (finished (after_end r b xs h i))) ∙ append_assoc (end_text r) (answers_from n xs) (written (finished (stream_after n xs)))
          ∙ (λ i. text_same r line k i ++ c.text i) ∙ ap (λ (q : State). line_text s line ++ text_from q (lines_from [] xs)) (state-same r line k)
          ∙ sym (answers-cons s line (lines_from [] xs)) ∙ ap (text_from s) (sym (lines_end line b xs h));
      tallies =
          ap (λ (q : Stream). (finished q).stream.tallies) (after_end r b xs h) ∙ c.tallies
          ∙ (λ i. counted_of ((next-tallies r ∙ ap (counted r.tallies) (number_same r line k)) i) (state-same r line k i) (lines_from [] xs))
          ∙ sym (counted-cons r.tallies s line (lines_from [] xs)) ∙ ap (counted_of r.tallies s) (sym (lines_end line b xs h));
    }

comes_char : (r : Stream) (line : List ℕ) (b : ℕ) (xs : List ℕ) → eqb b 10 ≡ false
    → Comes (with_line r (pushed r.line b)) (line ++ (b ∷ [])) xs → Comes r line (b ∷ xs)
comes_char r line b xs h c = record {
  text = (λ i. answers_char r b xs h i ++ written (finished (after_char r b xs h i))) ∙ c.text ∙ ap (text_from r.state) (sym (lines_char line b xs h));
  tallies = ap (λ (q : Stream). (finished q).stream.tallies) (after_char r b xs h) ∙ c.tallies ∙ ap (counted_of r.tallies r.state) (sym (lines_char line b xs h));
}

-- the next line is kept too
kept_next : (r : Stream) → (next_line r).line ≡ kept []
kept_next r = next-line r

comes : (xs : List ℕ) (r : Stream) (line : List ℕ) → r.line ≡ kept line → Comes r line xs
comes [] r line k = ⊎_elim (λ (h : length line ≤ 0). comes-none r line k h) (λ (h : 0 < length line). comes_some r line k h) (le-or-lt (length line) 0)
comes (b ∷ xs) r line k =
    ⊎_elim (λ (h : eqb b 10 ≡ true). comes_end r line b xs k h (comes xs (next_line r) [] (kept_next r)))
    (λ (h : eqb b 10 ≡ false). comes_char r line b xs h (comes xs (with_line r (pushed r.line b)) (line ++ (b ∷ [])) (ap (λ (l : Line). pushed l b) k ∙ kept-pushed line b)))
    (either (eqb b 10))

-- ---- from the start

kept_fresh : fresh_stream.line ≡ kept []
unfolding fresh_stream
kept_fresh = refl

fresh_tallies : fresh_stream.tallies ≡ replicate numbers_counted 0
unfolding fresh_stream
fresh_tallies = refl

fresh_state_lem : fresh_stream.state ≡ fresh_state true
unfolding fresh_stream
fresh_state_lem = refl

-- no tally before the first line
no_tally : (n : ℕ) → get_or (replicate {A = ℕ} numbers_counted 0) n 0 ≡ 0
no_tally n =
    ⊎_elim (λ (h : numbers_counted ≤ n). get_or-eq_default (replicate {A = ℕ} numbers_counted 0) 0 {n = n} (omega (arith, length-replicate {A = ℕ} numbers_counted 0)))
    (λ (h : n < numbers_counted). get_or-replicate numbers_counted n 0 0 h) (le-or-lt numbers_counted n)

whole : (input : List ℕ) → Comes fresh_stream [] input
whole input = comes input fresh_stream [] kept_fresh

-- ---- the theorems

pub printed_counts : PrintedCounts
printed_counts input n =
    let z = no_tally n in
    ap (λ (ts : List ℕ). tally ts n) ((whole input).tallies ∙ (λ i. counted_of (fresh_tallies i) (fresh_state_lem i) (lines_of input)))
    ∙ tallied (lines_of input) (fresh_state true) (replicate numbers_counted 0) n (length-replicate {A = ℕ} numbers_counted 0) (omega (arith, z))
    ∙ omega (arith, z)

pub output_of_pieces : OutputOfPieces
output_of_pieces ps =
    let input = joined ps in
    let last : last_progress ps ≡ finished (stream_after fresh_stream input) = ap finished (pieces_stream_lem fresh_stream ps) in
    let tallies = (last_progress ps).stream.tallies in
    let answers : pieces_text fresh_stream ps ++ written (last_progress ps) ≡ answers_to input =
    (λ i. pieces_text_lem fresh_stream ps i ++ written (last i)) ∙ (whole input).text ∙ ap (λ (q : State). text_from q (lines_of input)) fresh_state_lem in
    let counts : (n : ℕ) → tally tallies n ≡ printed_count input n = λ n. ap (λ (d : Progress). tally d.stream.tallies n) last ∙ printed_counts input n in
    sym (append_assoc (pieces_text fresh_stream ps) (written (last_progress ps)) (written_counts tallies))
    ∙ (λ i. answers i ++ closing (λ n. counts n i))

pub output-ascends : OutputAscends
output-ascends input = (closing (printed_count input), refl, ascending_lines (printed_count input) (λ n h. omega (arith, none_above (lines_of input) (fresh_state true) n h)))
