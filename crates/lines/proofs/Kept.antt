-- What is kept of a line: up to 1,098 of its characters, and whether there were more.
use mathlib.Core.Path.{◌≡◌, refl, sym, ap, ◌∙◌}
use mathlib.Core.Bool.{Bool, true, false, ◌||◌}
use mathlib.Core.List.{List, [], ◌∷◌, ◌++◌, append-nil, append_assoc}
use mathlib.Core.Logic.{⊎_elim}
use Prim.Native.Nat.{ℕ, suc, ◌-◌, ◌≤◌, ◌<◌, min}
use native.Mathlib.Omega.{arith}
use lib.Dec.{ltb}
use lib.ListN.{length, take, length-append, length-take}
use lib.Seq.{take_all, take-append-le}
use borrow.Author.Tests.{lt-ltb, le-ltb, le-leb, lt-leb, ltb-false}
use Rattle.integers.specs.Natural.{le-or-lt, ltb_same}
use Rattle.integers.specs.Truth.{neither}
use Rattle.digits.specs.Digits.{bytes_of}
use Rattle.state.specs.declared.State.{State}
use Rattle.lines.specs.Replies.{state_for}
use Rattle.lines.specs.Stream.{pushed, pushed_all, is_begun}
use Rattle.lines.specs.Parts.{reply_of, line_reply, text_reply}
use Rattle.lines.specs.declared.Line.{Line}

abbrev pub kept : List ℕ → Line
kept line = record { text = record { items = take 1098 line }; over = ltb 1098 (length line) }

-- ---- as characters come

pub kept-pushed : (line : List ℕ) (b : ℕ) → pushed (kept line) b ≡ kept (line ++ (b ∷ []))
unfolding pushed
kept-pushed line b =
    let n = length-append line (b ∷ []) in
    let m = length-take 1098 line in
    ⊎_elim (λ (h : 1098 ≤ length line).
    rw (le-ltb (length (take 1098 line)) 1098 (omega arith), lt-ltb 1098 (length (line ++ (b ∷ []))) (omega arith), take-append-le 1098 line (b ∷ []) h))
    (λ (h : length line < 1098).
    rw
    (lt-ltb (length (take 1098 line)) 1098 (omega arith), le-ltb 1098 (length line) (omega arith), le-ltb 1098 (length (line ++ (b ∷ []))) (omega arith), take_all 1098 line (omega arith), take_all 1098 (line ++ (b ∷ [])) (omega arith)))
    (le-or-lt 1098 (length line))

pub kept_all : (line xs : List ℕ) → pushed_all (kept line) xs ≡ kept (line ++ xs)
unfolding pushed_all
kept_all line [] = ap kept (sym (append-nil line))
kept_all line (b ∷ xs) =
    ap (λ (l : Line). pushed_all l xs) (kept-pushed line b) ∙ kept_all (line ++ (b ∷ [])) xs ∙ ap kept (append_assoc line (b ∷ []) xs)

-- ---- as a piece comes

over_all : (t : Bool) → (t || true) ≡ true
over_all true = refl
over_all false = refl

over_none : (t : Bool) → (t || false) ≡ t
over_none true = refl
over_none false = refl

take-nil : (n : ℕ) → take {A = ℕ} n [] ≡ []
take-nil n = take_all {A = ℕ} n [] (omega arith)

-- what there is room for is kept
pub append_is : (l : Line) (xs : List ℕ) → length l.text.items ≤ 1098
    → pushed_all l xs ≡ record { text = record { items = l.text.items ++ take (1098 - length l.text.items) xs }; over = l.over || ltb (1098 - length l.text.items) (length xs) }
unfolding pushed_all pushed
append_is l [] h =
    let room = 1098 - length l.text.items in
    λ i. record {
      text = record { items = (sym (append-nil l.text.items) ∙ ap (λ (c : List ℕ). l.text.items ++ c) (sym (take-nil room))) i };
      over = (sym (over_none l.over) ∙ ap (λ (t : Bool). l.over || t) (sym (le-ltb room 0 (omega arith)))) i;
    }
append_is l (b ∷ xs) h =
    let cs = l.text.items in
    let n = length-append cs (b ∷ []) in
    let room = 1098 - length cs in
    ⊎_elim (λ (k : 1098 ≤ length cs).
    let e : 0 ≡ room = omega arith in
    rw (le-ltb (length cs) 1098 k)
    (append_is (record { text = l.text; over = true }) xs h
    ∙ (λ i. record {
      text = record { items = cs ++ (ap (λ (m : ℕ). take m xs) (sym e) ∙ ap (λ (m : ℕ). take m (b ∷ xs)) e) i };
      over = (sym (over_all l.over) ∙ ap (λ (t : Bool). l.over || t) (sym (lt-ltb room (length (b ∷ xs)) (omega arith)))) i;
    })))
    (λ (k : length cs < 1098).
    let less = 1098 - length (cs ++ (b ∷ [])) in
    let e : suc less ≡ room = omega arith in
    rw (lt-ltb (length cs) 1098 k)
    (append_is (record { text = record { items = cs ++ (b ∷ []) }; over = l.over }) xs (omega arith)
    ∙ (λ i. record {
      text = record { items = (append_assoc cs (b ∷ []) (take less xs) ∙ ap (λ (m : ℕ). cs ++ take m (b ∷ xs)) e) i };
      over = l.over || ltb_same less (length xs) room (length (b ∷ xs)) (λ g. omega arith) (λ g. omega arith) i;
    })))
    (le-or-lt 1098 (length cs))

-- as many as there is room for
pub take-min : (room m : ℕ) (xs : List ℕ) → m ≡ min (length xs) room → take m xs ≡ take room xs
take-min room m xs e =
    ⊎_elim (λ (h : length xs ≤ room). take_all m xs (omega (arith, e)) ∙ sym (take_all room xs h)) (λ (h : room < length xs). let q : m ≡ room = omega (arith, e) in ap (λ (k : ℕ). take k xs) q)
    (le-or-lt (length xs) room)

-- ---- the answer to what is kept is that to the line

reply-none : (a b : List ℕ) (s : State) → reply_of false a s ≡ reply_of false b s
unfolding reply_of state_for
reply-none a b s = refl

pub kept_reply : (line : List ℕ) (s : State) → line_reply (kept line) s ≡ text_reply line s
kept_reply line s =
    ⊎_elim (λ (h : length line ≤ 1098). rw (le-ltb 1098 (length line) h, le-leb (length line) 1098 h, take_all 1098 line h) refl)
    (λ (h : 1098 < length line). rw (lt-ltb 1098 (length line) h, lt-leb (length line) 1098 h) (reply-none (bytes_of (take 1098 line)) (bytes_of line) s))
    (le-or-lt (length line) 1098)

-- a line that has not begun is blank
blank_is : (l : Line) → is_begun l ≡ false → kept [] ≡ l
blank_is l h =
    let p = neither (ltb 0 (length l.text.items)) l.over h in
    λ i. record { text = record { items = none l.text.items (ltb-false 0 (length l.text.items) p.0) i }; over = sym p.1 i }
  where
    none : (xs : List ℕ) → length xs ≤ 0 → [] ≡ xs
    none [] h = refl
    none (b ∷ xs) h = absurd (let z : ⊥ = omega arith in z)

-- a line that stands whole in a piece
pub whole_reply : (line : Line) (part : List ℕ) (s : State) → is_begun line ≡ false → text_reply part s ≡ line_reply (pushed_all line part) s
whole_reply line part s h =
    let e = blank_is line h in
    sym (ap (λ (l : Line). line_reply (pushed_all l part) s) (sym e) ∙ ap (λ (l : Line). line_reply l s) (kept_all [] part) ∙ kept_reply part s)

-- the answer to the text of a line that is not too long, and to one that is
pub text_line : (line : Line) (s : State) → line.over ≡ false → length line.text.items ≤ 1098 → text_reply line.text.items s ≡ line_reply line s
text_line line s o h = rw (o, le-leb (length line.text.items) 1098 h) refl

pub over_line : (line : Line) (s : State) (bytes : List ℕ) → line.over ≡ true → reply_of false bytes s ≡ line_reply line s
over_line line s bytes o = rw o (reply-none bytes (bytes_of line.text.items) s)

-- ---- there is something of a line where it has a character

pub kept_begun : (line : List ℕ) → is_begun (kept line) ≡ ltb 0 (length line)
kept_begun line =
    ⊎_elim (λ (h : length line ≤ 1098). rw (le-ltb 1098 (length line) h, take_all 1098 line h) (over_none (ltb 0 (length line))))
    (λ (h : 1098 < length line). rw (lt-ltb 1098 (length line) h) (over_all (ltb 0 (length (take 1098 line))) ∙ sym (lt-ltb 0 (length line) (omega arith))))
    (le-or-lt (length line) 1098)
