-- Pulses at ascending places are determined by what they sum to at each place.
use mathlib.Core.Path.{◌≡◌, refl, sym, ap, ◌∙◌}
use mathlib.Core.Logic.{⊎_elim}
use mathlib.Core.Bool.{cond}
use Prim.Native.Nat.{ℕ, zero, suc, ◌+◌, ◌≤◌, ◌<◌}
use native.Mathlib.Numerals.{add-one}
use native.Mathlib.Omega.{arith}
use lib.Dec.{eqb}
use lib.IntN.{ℤ, pos, nat_abs, ◌+ℤ◌, +ℤ_idl, +ℤ_idr, +ℤ_comm}
use borrow.Author.Tests.{eq-eqb, ne_eqb}
use Rattle.integers.specs.Base.{sum_to}
use Rattle.integers.specs.Linear.{add_cancel}
use Rattle.integers.specs.Natural.{le-or-lt}
use Rattle.integers.specs.Sum.{sum_first}

-- what n pulses sum to at j, where the k-th is a k and stands at p k
abbrev pub sum_at : (ℕ → ℕ) → (ℕ → ℤ) → ℕ → ℕ → ℤ
sum_at p a n j = sum_to (λ k. cond (eqb (p k) j) (a k) (pos 0)) n

-- n pulses at ascending places below N, none of them 0
pub record Row (p : ℕ → ℕ) (a : ℕ → ℤ) (N n : ℕ) : Type 0 where
  pub ascends : (i k : ℕ) → i < k → k < n → p i < p k
  pub inside : (k : ℕ) → k < n → p k < N
  pub nonzero : (k : ℕ) → k < n → 0 < nat_abs (a k)

-- ---- the first pulse apart

first : (p : ℕ → ℕ) (a : ℕ → ℤ) (n j : ℕ) → sum_at p a (suc n) j ≡ sum_at (λ k. p (k + 1)) (λ k. a (k + 1)) n j +ℤ cond (eqb (p 0) j) (a 0) (pos 0)
first p a n j =
    ap (sum_to (λ k. cond (eqb (p k) j) (a k) (pos 0))) (sym (add-one n)) ∙ sum_first (λ k. cond (eqb (p k) j) (a k) (pos 0)) n
    ∙ +ℤ_comm (cond (eqb (p 0) j) (a 0) (pos 0)) (sum_at (λ k. p (k + 1)) (λ k. a (k + 1)) n j)

rest : {p : ℕ → ℕ} {a : ℕ → ℤ} {N n : ℕ} → Row p a N (suc n) → Row (λ k. p (k + 1)) (λ k. a (k + 1)) N n
rest r = record {
  ascends = λ i k h m. r.ascends (i + 1) (k + 1) (omega arith) (omega arith);
  inside = λ k h. r.inside (k + 1) (omega arith);
  nonzero = λ k h. r.nonzero (k + 1) (omega arith);
}

-- ---- before the first place there is nothing, and there the first pulse alone

before : (p : ℕ → ℕ) (a : ℕ → ℤ) (n j : ℕ) → ((k : ℕ) → k < n → j < p k) → sum_at p a n j ≡ pos 0
unfolding sum_to
before p a zero j h = refl
before p a (suc n) j h =
    rw (ne_eqb (p n) j (λ e. let m : j < p n = h n (omega arith) in omega arith)) (+ℤ_idr (sum_at p a n j) ∙ before p a n j (λ k m. h k (omega arith)))

before-row : {p : ℕ → ℕ} {a : ℕ → ℤ} {N n : ℕ} → Row p a N (suc n) → (j : ℕ) → j < p 0 → sum_at p a (suc n) j ≡ pos 0
before-row {p} {a} {N} {n} r j h = before p a (suc n) j each
  where
    each : (k : ℕ) → k < suc n → j < p k
    each zero m = h
    each (suc k) m = omega (arith, r.ascends 0 (suc k) (omega arith) m)

at_first : {p : ℕ → ℕ} {a : ℕ → ℤ} {N n : ℕ} → Row p a N (suc n) → sum_at p a (suc n) (p 0) ≡ a 0
at_first {p} {a} {N} {n} r =
    first p a n (p 0)
    ∙ rw (eq-eqb (p 0) (p 0) refl, before (λ k. p (k + 1)) (λ k. a (k + 1)) n (p 0) (λ k m. r.ascends 0 (k + 1) (omega arith) (omega arith))) (+ℤ_idl (a 0))

-- ---- two rows with equal sums

-- neither starts later than the other, as it would miss the other's first pulse
no_later : {p q : ℕ → ℕ} {a b : ℕ → ℤ} {N n : ℕ} → Row p a N (suc n) → Row q b N (suc n)
    → ((j : ℕ) → j < N → sum_at p a (suc n) j ≡ sum_at q b (suc n) j) → q 0 ≤ p 0
no_later {p} {q} {a} r s same = ⊎_elim (λ (h : q 0 ≤ p 0). h) (λ (h : p 0 < q 0). absurd (missed h)) (le-or-lt (q 0) (p 0))
  where
    missed : p 0 < q 0 → ⊥
    missed h =
        let e : a 0 ≡ pos 0 = sym (at_first r) ∙ same (p 0) (r.inside 0 (omega arith)) ∙ before-row s (p 0) h in
        omega (arith, r.nonzero 0 (omega arith), ap nat_abs e)

-- so that the first pulses are equal, and what is left of the two has equal sums
module _ {p q : ℕ → ℕ} {a b : ℕ → ℤ} {N n : ℕ} (r : Row p a N (suc n)) (s : Row q b N (suc n))
    (same : (j : ℕ) → j < N → sum_at p a (suc n) j ≡ sum_at q b (suc n) j)
  where
    first-place : p 0 ≡ q 0
    first-place = omega (arith, no_later r s same, no_later s r (λ j h. sym (same j h)))

    first-pulse : a 0 ≡ b 0
    first-pulse = sym (at_first r) ∙ same (p 0) (r.inside 0 (omega arith)) ∙ ap (sum_at q b (suc n)) first-place ∙ at_first s

    rest-same : (j : ℕ) → j < N → sum_at (λ k. p (k + 1)) (λ k. a (k + 1)) n j ≡ sum_at (λ k. q (k + 1)) (λ k. b (k + 1)) n j
    rest-same j h =
        add_cancel (sum_at (λ k. p (k + 1)) (λ k. a (k + 1)) n j) (sum_at (λ k. q (k + 1)) (λ k. b (k + 1)) n j) (cond (eqb (p 0) j) (a 0) (pos 0))
        (sym (first p a n j) ∙ same j h ∙ first q b n j
        ∙ (λ i. sum_at (λ k. q (k + 1)) (λ k. b (k + 1)) n j +ℤ cond (eqb (sym first-place i) j) (sym first-pulse i) (pos 0)))

-- each pulse is equal
pub rows_equal : (n : ℕ) {p q : ℕ → ℕ} {a b : ℕ → ℤ} {N : ℕ} → Row p a N n → Row q b N n
    → ((j : ℕ) → j < N → sum_at p a n j ≡ sum_at q b n j) → (k : ℕ) → k < n → (p k ≡ q k) × (a k ≡ b k)
rows_equal zero r s same k h = absurd (omega arith)
rows_equal (suc n) r s same zero h = (first-place r s same, first-pulse r s same)
rows_equal (suc n) {p} {q} {a} {b} r s same (suc k) h =
    let e = rows_equal n (rest r) (rest s) (rest-same r s same) k (omega arith) in
    (ap p (sym (add-one k)) ∙ e.0 ∙ ap q (add-one k), ap a (sym (add-one k)) ∙ e.1 ∙ ap b (add-one k))
