-- The loop of `digit_pairs`: what holds after i pairs, and where it ends.
use Rattle.std.specs.Prelude.{◌≡◌, Bool, true, false, ◌&&◌, List, [], ◌++◌, ℕ, suc, ◌+◌, ◌*◌, ◌/◌, ◌%◌, ◌≤◌, ◌<◌, eqb, length, get_or, set, take, drop, replicate}
use Rattle.std.proofs.Common.{refl, sym, ap, ◌∙◌, arith, le-leb, ltb}
use Rattle.std.proofs.lemmas.Bool.{lt-leb}
use Rattle.std.proofs.lemmas.List.{length-replicate}
use lib.Seq.{take_all, take-append-le}
use borrow.Author.Tests.{eqb-true}
use native.Mathlib.Numerals.{add-one}
use Rattle.integers.specs.Base.{tabulate}
use Rattle.integers.specs.Fill.{tabulate-length, rest-start, rest-next}
use Rattle.integers.specs.Truth.{and-regroup}
use Rattle.digits.proofs.Characters.{code_digit, code-value}
use Rattle.digits.specs.Digits.{is_digit, digit_code, are_digits, has_pairs, pair_value, read_as, pairs_of}

-- whether the text is digits so far, and can be halved
abbrev pub digits_to : List ℕ → ℕ → Bool
digits_to text i = eqb (length text % 2) 0 && are_digits text (2 * i)

abbrev pub zeros : List ℕ
zeros = replicate 549 0

pub record Reading (text bytes : List ℕ) (are : Bool) (i : ℕ) : Type 0 where
  pub inside : i ≤ length text / 2
  pub read : bytes ≡ tabulate (pair_value text) i ++ drop i zeros
  pub digits : are ≡ digits_to text i

pub reading_start : (text : List ℕ) (are : Bool) → are ≡ eqb (length text % 2) 0 → Reading text zeros are 0
unfolding are_digits
reading_start text are h = record { inside = omega arith; read = rest-start (pair_value text) zeros; digits = h ∙ sym (and_true (eqb (length text % 2) 0)) }
  where
    and_true : (b : Bool) → (b && true) ≡ b
    and_true true = refl
    and_true false = refl

two_more : (text : List ℕ) (i : ℕ) → are_digits text (2 * (i + 1)) ≡ ((are_digits text (2 * i) && is_digit (get_or text (2 * i) 0)) && is_digit (get_or text (2 * i + 1) 0))
unfolding are_digits
two_more text i =
    let e : 2 * (i + 1) ≡ suc (suc (2 * i)) = omega arith in
    rw e (ap (λ (k : ℕ). (are_digits text (2 * i) && is_digit (get_or text (2 * i) 0)) && is_digit (get_or text k 0)) (sym (add-one (2 * i))))

pub reading_next : {text bytes : List ℕ} {are : Bool} {i a b : ℕ} → Reading text bytes are i → i < length text / 2 → length text ≤ 1098
    → a ≡ digit_code (get_or text (2 * i) 0) → b ≡ digit_code (get_or text (2 * i + 1) 0)
    → {v : ℕ} → v ≡ 16 * (a % 16) + b % 16
    → {still : Bool} → still ≡ ((are && ltb a 16) && ltb b 16) → Reading text (set bytes i v) still (i + 1)
reading_next {text} {bytes} {are} {i} {a} {b} r lt short ea eb e h =
    let p = eqb (length text % 2) 0 in
    let q = are_digits text (2 * i) in
    let first = is_digit (get_or text (2 * i) 0) in
    let second = is_digit (get_or text (2 * i + 1) 0) in
    let digit = λ (n c : ℕ) (g : n ≡ digit_code c). ap (λ (m : ℕ). ltb m 16) g ∙ code_digit c in
    let value = λ (n c : ℕ) (g : n ≡ digit_code c). ap (λ (m : ℕ). m % 16) g ∙ code-value c in
    record {
      inside = omega arith;
      read =
          (λ k. set (r.read k) i ((e ∙ (λ j. 16 * value a _ ea j + value b _ eb j)) k))
          ∙ rest-next (pair_value text) zeros i 0 (omega (arith, length-replicate {A = ℕ} 549 0));
      digits =
          h
          ∙ (λ k. (r.digits k && digit a _ ea k) && digit b _ eb k)
          ∙ (λ k. and-regroup p q first k && second)
          ∙ and-regroup p (q && first) second
          ∙ ap (λ (t : Bool). p && t) (sym (two_more text i));
    }

-- where the length is odd, both are false
all_digits : (text : List ℕ) → digits_to text (length text / 2) ≡ has_pairs text
all_digits text =
    by (eqb (length text % 2) 0) (λ h. ap (are_digits text) (even (eqb-true (length text % 2) 0 h)))
  where
    even : length text % 2 ≡ 0 → 2 * (length text / 2) ≡ length text
    even h = omega arith

    by : (p : Bool) {x y : Bool} → (p ≡ true → x ≡ y) → (p && x) ≡ (p && y)
    by true e = e refl
    by false e = refl

pub reading_end : {text bytes : List ℕ} {are : Bool} {i : ℕ} → Reading text bytes are i → length text ≤ 1098 → length text / 2 ≤ i
    → {held : List ℕ} → held ≡ [] ++ take (length text / 2) bytes → {t : Bool} → are ≡ t → read_as t held ≡ pairs_of text
unfolding pairs_of
reading_end {text} {bytes} {are} {i} r short le {held} g h =
    let e : i ≡ length text / 2 = omega (arith, r.inside) in
    let front = take-append-le (length text / 2) (tabulate (pair_value text) i) (drop i zeros) (omega (arith, tabulate-length (pair_value text) i)) in
    let all = take_all (length text / 2) (tabulate (pair_value text) i) (omega (arith, tabulate-length (pair_value text) i)) in
    rw (le-leb (length text) 1098 short)
    (λ k. read_as ((sym h ∙ r.digits ∙ ap (digits_to text) e ∙ all_digits text) k)
    ((g ∙ ap (take (length text / 2)) r.read ∙ front ∙ all ∙ ap (tabulate (pair_value text)) e) k))

pub too_long : (text : List ℕ) {bytes : List ℕ} → 1098 < length text → bytes ≡ [] → read_as false bytes ≡ pairs_of text
unfolding pairs_of
too_long text h e = rw (lt-leb (length text) 1098 h) (ap (read_as false) e)
