-- What `feed` takes of a piece: the characters before the first newline are pushed, and the newline ends the line.
use mathlib.Core.Path.{◌≡◌, refl, sym, ap, ◌∙◌}
use mathlib.Core.Bool.{Bool, true, false, cond}
use mathlib.Core.List.{List, [], ◌∷◌, append-nil}
use mathlib.Core.Logic.{⊎_elim}
use Rattle.digits.proofs.Characters.{either}
use Prim.Native.Nat.{ℕ, suc, ◌+◌, ◌≤◌, ◌<◌}
use native.Mathlib.Omega.{arith}
use lib.Dec.{eqb, ltb}
use lib.Seq.{take_all}
use borrow.Author.Tests.{ltb-true, ltb-false}
use lib.ListN.{length, take}
use Rattle.std.specs.Prelude.{Some, None}
use Rattle.std.specs.List.{position}
use Rattle.array_bytes.specs.ArrayBytes.{ArrayBytes}
use Rattle.lines.specs.Parts.{line_reply, progress_by, newline_at}
use Rattle.lines.specs.Stream.{pushed, pushed_all, text_of, end_text, next_line, with_byte, stream_after, answers_from, to_newline, progress_of}
use Rattle.lines.specs.declared.Line.{Line}
use Rattle.lines.specs.declared.Stream.{Stream}
use Rattle.lines.specs.declared.Reply.{Reply}
use Rattle.lines.proofs.Texts.{reply-progress}

abbrev pub with_line : Stream → Line → Stream
with_line r l = record { state = r.state; line = l; tallies = r.tallies }

-- r with the characters before the first newline
abbrev pub longer : Stream → List ℕ → Stream
longer r xs = with_line r (pushed_all r.line (take (newline_at xs) xs))

-- ---- the first byte

later : (b : ℕ) (xs : List ℕ) → eqb b 10 ≡ false → newline_at (b ∷ xs) ≡ suc (newline_at xs)
unfolding newline_at
later b xs h = rw h (omega arith)

here : (b : ℕ) (xs : List ℕ) → eqb b 10 ≡ true → newline_at (b ∷ xs) ≡ 0
unfolding newline_at
here b xs h = rw h

pub byte-ends : (r : Stream) (b : ℕ) → eqb b 10 ≡ true → with_byte r b ≡ next_line r
unfolding with_byte
byte-ends r b h = rw h

pub byte-pushed : (r : Stream) (b : ℕ) → eqb b 10 ≡ false → with_byte r b ≡ with_line r (pushed r.line b)
unfolding with_byte
byte-pushed r b h = rw h

piece_here : (b : ℕ) (xs : List ℕ) → eqb b 10 ≡ true → to_newline (b ∷ xs) ≡ b ∷ []
unfolding to_newline
piece_here b xs h = rw h

piece_later : (b : ℕ) (xs : List ℕ) → eqb b 10 ≡ false → to_newline (b ∷ xs) ≡ b ∷ to_newline xs
unfolding to_newline
piece_later b xs h = rw h

-- ---- a piece with a newline

record Ends (r : Stream) (xs : List ℕ) : Type 0 where
  carried : stream_after r (to_newline xs) ≡ next_line (longer r xs)
  answers : answers_from r (to_newline xs) ≡ end_text (longer r xs)
  used : length (to_newline xs) ≡ newline_at xs + 1

ends-here : (r : Stream) (b : ℕ) (xs : List ℕ) → eqb b 10 ≡ true → Ends r (b ∷ xs)
unfolding stream_after answers_from pushed_all
ends-here r b xs h =
    let n = piece_here b xs h in
    let p : r ≡ longer r (b ∷ xs) = ap (λ (k : ℕ). with_line r (pushed_all r.line (take k (b ∷ xs)))) (sym (here b xs h)) in
    record {
      carried = ap (stream_after r) n ∙ byte-ends r b h ∙ ap next_line p;
      answers = ap (answers_from r) n ∙ rw h (append-nil (end_text r)) ∙ ap end_text p;
      used = ap length n ∙ ap (λ (k : ℕ). k + 1) (sym (here b xs h));
    }

-- a character that is not a newline goes to the line
longer-later : (r : Stream) (b : ℕ) (xs : List ℕ) → eqb b 10 ≡ false → longer (with_line r (pushed r.line b)) xs ≡ longer r (b ∷ xs)
unfolding pushed_all
longer-later r b xs h = ap (λ (k : ℕ). with_line r (pushed_all r.line (take k (b ∷ xs)))) (sym (later b xs h))

ends-later : (r : Stream) (b : ℕ) (xs : List ℕ) → eqb b 10 ≡ false → Ends (with_line r (pushed r.line b)) xs → Ends r (b ∷ xs)
unfolding stream_after answers_from
ends-later r b xs h e =
    let n = piece_later b xs h in
    let p = byte-pushed r b h in
    record {
      carried = ap (stream_after r) n ∙ ap (λ (q : Stream). stream_after q (to_newline xs)) p ∙ e.carried ∙ ap next_line (longer-later r b xs h);
      answers = ap (answers_from r) n ∙ rw h (ap (λ (q : Stream). answers_from q (to_newline xs)) p) ∙ e.answers ∙ ap end_text (longer-later r b xs h);
      used = ap length n ∙ ap suc e.used ∙ omega (arith, later b xs h);
    }

-- ---- a piece without

record Goes (r : Stream) (xs : List ℕ) : Type 0 where
  carried : stream_after r (to_newline xs) ≡ longer r xs
  answers : answers_from r (to_newline xs) ≡ []
  used : length (to_newline xs) ≡ newline_at xs

goes_none : (r : Stream) → Goes r []
unfolding stream_after answers_from to_newline newline_at pushed_all
goes_none r = record { carried = refl; answers = refl; used = refl }

goes_on : (r : Stream) (b : ℕ) (xs : List ℕ) → eqb b 10 ≡ false → Goes (with_line r (pushed r.line b)) xs → Goes r (b ∷ xs)
unfolding stream_after answers_from
goes_on r b xs h e =
    let n = piece_later b xs h in
    let p = byte-pushed r b h in
    record {
      carried = ap (stream_after r) n ∙ ap (λ (q : Stream). stream_after q (to_newline xs)) p ∙ e.carried ∙ longer-later r b xs h;
      answers = ap (answers_from r) n ∙ rw h (ap (λ (q : Stream). answers_from q (to_newline xs)) p) ∙ e.answers;
      used = ap length n ∙ ap suc e.used ∙ sym (later b xs h);
    }

-- ---- both, by the first byte

nowhere : newline_at [] ≡ 0
unfolding newline_at
nowhere = refl

newline_inside : (xs : List ℕ) → newline_at xs ≤ length xs
newline_inside [] = omega (arith, nowhere)
newline_inside (b ∷ xs) =
    ⊎_elim (λ (e : eqb b 10 ≡ true). omega (arith, here b xs e)) (λ (e : eqb b 10 ≡ false). omega (arith, later b xs e, newline_inside xs)) (either (eqb b 10))

-- the first newline as `position` answers it
pub newline_some : (xs : List ℕ) (n : ℕ) → Some n ≡ position (λ b. eqb b 10) xs → (newline_at xs ≡ n) × (newline_at xs < length xs)
unfolding newline_at
newline_some xs n e = by (ltb (newline_at xs) (length xs)) refl e
  where
    by : (t : Bool) → ltb (newline_at xs) (length xs) ≡ t → Some n ≡ cond t (Some (newline_at xs)) None → (newline_at xs ≡ n) × (newline_at xs < length xs)
    by true h f = (cc, ltb-true (newline_at xs) (length xs) h)
    by false h f = absurd (let z : ⊥ = cc in z)

pub newline_none : (xs : List ℕ) → None ≡ position (λ b. eqb b 10) xs → newline_at xs ≡ length xs
unfolding newline_at
newline_none xs e = by (ltb (newline_at xs) (length xs)) refl e
  where
    by : (t : Bool) → ltb (newline_at xs) (length xs) ≡ t → None ≡ cond t (Some (newline_at xs)) None → newline_at xs ≡ length xs
    by true h f = absurd (let z : ⊥ = cc in z)
    by false h f = omega (arith, newline_inside xs, ltb-false (newline_at xs) (length xs) h)

ends : (r : Stream) (xs : List ℕ) → newline_at xs < length xs → Ends r xs
ends r [] h = absurd (let z : ⊥ = omega (arith, nowhere) in z)
ends r (b ∷ xs) h =
    ⊎_elim (λ (e : eqb b 10 ≡ true). ends-here r b xs e)
    (λ (e : eqb b 10 ≡ false). ends-later r b xs e (ends (with_line r (pushed r.line b)) xs (omega (arith, later b xs e)))) (either (eqb b 10))

goes : (r : Stream) (xs : List ℕ) → length xs ≤ newline_at xs → Goes r xs
goes r [] h = goes_none r
goes r (b ∷ xs) h =
    ⊎_elim (λ (e : eqb b 10 ≡ true). absurd (let z : ⊥ = omega (arith, here b xs e) in z))
    (λ (e : eqb b 10 ≡ false). goes_on r b xs e (goes (with_line r (pushed r.line b)) xs (omega (arith, later b xs e)))) (either (eqb b 10))

-- ---- what `feed` answers

pub progress_ended : (r : Stream) (xs : List ℕ) (n : ℕ) (a : Reply) → Some n ≡ position (λ b. eqb b 10) xs → a ≡ line_reply (pushed_all r.line (take n xs)) r.state
    → progress_by r.tallies a (n + 1) ≡ progress_of r xs
unfolding progress_of next_line end_text
progress_ended r xs n a h e =
    let p = newline_some xs n h in
    let w = ends r xs p.1 in
    (λ i. progress_by r.tallies ((e ∙ (λ k. line_reply (pushed_all r.line (take (sym p.0 k) xs)) r.state)) i) (sym p.0 i + 1))
    ∙ reply-progress r.tallies _ _ r.state (newline_at xs + 1)
    ∙ (λ i. record { stream = sym w.carried i; text = text_of (sym w.answers i); used = sym w.used i })

pub progress_going : (r : Stream) (xs : List ℕ) (l : Line) (t : ArrayBytes) → None ≡ position (λ b. eqb b 10) xs → l ≡ pushed_all r.line xs → t.items ≡ []
    → record { stream = with_line r l; text = t; used = length xs } ≡ progress_of r xs
unfolding progress_of
progress_going r xs l t h e g =
    let p = newline_none xs h in
    let w = goes r xs (omega (arith, p)) in
    let all : pushed_all r.line xs ≡ (longer r xs).line = ap (pushed_all r.line) (sym (take_all (newline_at xs) xs (omega (arith, p)))) in
    λ i. record { stream = (ap (with_line r) (e ∙ all) ∙ sym w.carried) i; text = text_of ((g ∙ sym w.answers) i); used = (sym p ∙ sym w.used) i }
