-- The numbers that were seen ascend, and each stands among them once; and their lines.
use mathlib.Core.Path.{◌≡◌, refl, sym, ap, ◌∙◌}
use mathlib.Core.Bool.{Bool, true, false, cond, ◌&&◌}
use mathlib.Core.List.{List, [], ◌∷◌, ◌++◌, append_assoc, append-nil}
use mathlib.Core.Logic.{⊎_elim}
use Prim.Native.Nat.{ℕ, zero, suc, ◌+◌, ◌≤◌, ◌<◌}
use native.Mathlib.Nat.{eq-or-lt_of_le, zero-add, add-zero}
use native.Mathlib.Numerals.{add-one}
use native.Mathlib.Omega.{arith}
use borrow.Author.Tests.{lt-ltb, eq-eqb, ne_eqb}
use lib.Dec.{eqb, ltb}
use lib.ListN.{length, get_or, length-append, get_or-append, get_or-eq_default}
use lib.Seq.{get_or-append_seam}
use Rattle.integers.specs.Natural.{le-or-lt}
use Rattle.tables.specs.Constants.{numbers_counted}
use Rattle.counts.specs.Counts.{how_many, tally, count_line, count_lines, is_seen, seen_below, closing}
use Rattle.counts.specs.Ascending.{Ascending, AscendingLines, ClosingAscends}

-- ---- they ascend

-- the numbers ns ascend, and are below n
record Rising (n : ℕ) (ns : List ℕ) : Type 0 where
  below : (k : ℕ) → k < length ns → get_or ns k 0 < n
  ascends : Ascending ns

-- with n after them
module _ (n : ℕ) (ns : List ℕ) (r : Rising n ns) where
  abbrev longer : List ℕ
  longer = ns ++ (n ∷ [])

  kept : (k : ℕ) → k < length ns → get_or longer k 0 ≡ get_or ns k 0
  kept k h = get_or-append ns (n ∷ []) 0 k h

  last : (k : ℕ) → length ns ≤ k → k < length longer → get_or longer k 0 ≡ n
  last k h l =
      let e : k ≡ length ns = omega (arith, length-append ns (n ∷ [])) in
      ap (λ (m : ℕ). get_or longer m 0) e ∙ get_or-append_seam ns n [] 0

  longer-below : (k : ℕ) → k < length longer → get_or longer k 0 < suc n
  longer-below k l =
      ⊎_elim {C = get_or longer k 0 < suc n}
      (λ (h : length ns ≤ k). omega (arith, last k h l))
      (λ (h : k < length ns). omega (arith, kept k h, r.below k h))
      (le-or-lt (length ns) k)

  longer-ascends : Ascending longer
  longer-ascends i k p l =
      let q : i < length ns = omega (arith, length-append ns (n ∷ [])) in
      ⊎_elim {C = get_or longer i 0 < get_or longer k 0}
      (λ (h : length ns ≤ k). omega (arith, kept i q, r.below i q, last k h l))
      (λ (h : k < length ns). omega (arith, kept i q, kept k h, r.ascends i k p h))
      (le-or-lt (length ns) k)

rising-next : (t : Bool) (n : ℕ) (ns : List ℕ) → Rising n ns → Rising (suc n) (ns ++ cond t (n ∷ []) [])
rising-next true n ns r = record { below = longer-below n ns r; ascends = longer-ascends n ns r }
rising-next false n ns r = rw (append-nil ns) (record { below = λ k h. omega (arith, r.below k h); ascends = r.ascends })

rising : (count : ℕ → ℕ) (n : ℕ) → Rising n (seen_below count n)
unfolding seen_below
rising count zero = record { below = λ k h. absurd (let z : ⊥ = omega arith in z); ascends = λ i k p h. absurd (let z : ⊥ = omega arith in z) }
rising count (suc n) = rising-next (is_seen count n) n (seen_below count n) (rising count n)

-- ---- each once

many-append : (n : ℕ) (a b : List ℕ) → how_many n (a ++ b) ≡ how_many n a + how_many n b
unfolding how_many
many-append n [] b = omega arith
many-append n (m ∷ a) b = omega (arith, many-append n a b)

many-one : (t : Bool) (n m : ℕ) → how_many n (cond t (m ∷ []) []) ≡ cond t (cond (eqb m n) 1 0) 0
unfolding how_many
many-one true n m = add-zero (cond (eqb m n) 1 0)
many-one false n m = refl

cond-zero : (t : Bool) → ◌≡◌ {A = ℕ} (cond t 0 0) 0
cond-zero true = refl
cond-zero false = refl

-- what one more number adds to the number of n
many-step : (count : ℕ → ℕ) (n m : ℕ) → how_many n (seen_below count (suc m)) ≡ how_many n (seen_below count m) + cond (is_seen count m) (cond (eqb m n) 1 0) 0
unfolding seen_below
many-step count n m =
    many-append n (seen_below count m) (cond (is_seen count m) (m ∷ []) [])
    ∙ ap (◌+◌ (how_many n (seen_below count m))) (many-one (is_seen count m) n m)

other : (count : ℕ → ℕ) (n m : ℕ) → (m ≡ n → ⊥) → ◌≡◌ {A = ℕ} (cond (is_seen count m) (cond (eqb m n) 1 0) 0) 0
other count n m h = ap (λ (t : Bool). cond (is_seen count m) (cond t 1 0) 0) (ne_eqb m n h) ∙ cond-zero (is_seen count m)

same : (count : ℕ → ℕ) (n : ℕ) → ◌≡◌ {A = ℕ} (cond (is_seen count n) (cond (eqb n n) 1 0) 0) (cond (is_seen count n) 1 0)
same count n = ap (λ (t : Bool). cond (is_seen count n) (cond t 1 0) 0) (eq-eqb n n refl)

many-above : (count : ℕ → ℕ) (n m : ℕ) → m ≤ n → how_many n (seen_below count m) ≡ 0
unfolding how_many seen_below
many-above count n zero h = refl
many-above count n (suc m) h =
    let apart : m ≡ n → ⊥ = λ e. omega arith in
    many-step count n m ∙ (λ i. many-above count n m (omega arith) i + other count n m apart i)

many_below : (count : ℕ → ℕ) (n m : ℕ) → n < m → how_many n (seen_below count m) ≡ cond (is_seen count n) 1 0
many_below count n zero h = absurd (let z : ⊥ = omega arith in z)
many_below count n (suc m) h =
    let within : n ≤ m = omega arith in
    let goal = how_many n (seen_below count (suc m)) ≡ cond (is_seen count n) 1 0 in
    ⊎_elim {C = goal}
    (λ (e : n ≡ m).
    ap (λ (k : ℕ). how_many n (seen_below count (suc k))) (sym e)
    ∙ many-step count n n
    ∙ (λ i. many-above count n n (omega arith) i + same count n i)
    ∙ zero-add (cond (is_seen count n) 1 0))
    (λ (p : n < m).
    let apart : m ≡ n → ⊥ = λ e. omega arith in
    many-step count n m
    ∙ (λ i. many_below count n m p i + other count n m apart i)
    ∙ add-zero (cond (is_seen count n) 1 0))
    (eq-or-lt_of_le within)

unseen : (t : Bool) → ◌≡◌ {A = ℕ} (cond (t && false) 1 0) 0
unseen true = refl
unseen false = refl

-- where no number from m on was seen
many_seen : (count : ℕ → ℕ) (m : ℕ) → ((n : ℕ) → m ≤ n → count n ≡ 0) → (n : ℕ) → how_many n (seen_below count m) ≡ cond (is_seen count n) 1 0
many_seen count m none n =
    ⊎_elim {C = how_many n (seen_below count m) ≡ cond (is_seen count n) 1 0}
    (λ (p : m ≤ n). many-above count n m p ∙ sym (ap (λ (k : ℕ). cond (ltb 0 n && ltb 0 k) 1 0) (none n p) ∙ unseen (ltb 0 n)))
    (λ (p : n < m). many_below count n m p)
    (le-or-lt m n)

-- ---- their lines

lines_append : (count : ℕ → ℕ) (a b : List ℕ) → count_lines count (a ++ b) ≡ count_lines count a ++ count_lines count b
unfolding count_lines
lines_append count [] b = refl
lines_append count (n ∷ a) b =
    ap (◌++◌ (count_line n (count n))) (lines_append count a b) ∙ sym (append_assoc (count_line n (count n)) (count_lines count a) (count_lines count b))

lines_one : (count : ℕ → ℕ) (t : Bool) (n : ℕ) → count_lines count (cond t (n ∷ []) []) ≡ cond t (count_line n (count n)) []
unfolding count_lines
lines_one count true n = append-nil (count_line n (count n))
lines_one count false n = refl

pub lines_start : (count : ℕ → ℕ) → count_lines count (seen_below count 1) ≡ []
unfolding count_lines seen_below
lines_start count = refl

pub lines_step : (count : ℕ → ℕ) (n : ℕ) → 0 < n
    → count_lines count (seen_below count n) ++ cond (ltb 0 (count n)) (count_line n (count n)) [] ≡ count_lines count (seen_below count (n + 1))
unfolding seen_below
lines_step count n h =
    ap (λ (t : Bool). count_lines count (seen_below count n) ++ cond (t && ltb 0 (count n)) (count_line n (count n)) []) (sym (lt-ltb 0 n h))
    ∙ ap (◌++◌ (count_lines count (seen_below count n))) (sym (lines_one count (is_seen count n) n))
    ∙ sym (lines_append count (seen_below count n) (cond (is_seen count n) (n ∷ []) []))
    ∙ ap (λ (k : ℕ). count_lines count (seen_below count k)) (sym (add-one n))

-- ---- the theorem

-- of counts by any means, where no number above 11 was seen
pub ascending_lines : (count : ℕ → ℕ) → ((n : ℕ) → numbers_counted ≤ n → count n ≡ 0) → AscendingLines count (closing count)
ascending_lines count none =
    let numbers = seen_below count numbers_counted in
    (numbers, (rising count numbers_counted).ascends, many_seen count numbers_counted none, refl)

pub closing-ascends : ClosingAscends
closing-ascends tallies l = ascending_lines (tally tallies) (λ n h. get_or-eq_default tallies 0 (omega arith))
