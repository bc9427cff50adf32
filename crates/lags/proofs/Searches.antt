-- Laws of the search: what leads after one lag more.
use mathlib.Core.Path.{◌≡◌, refl, sym, ◌∙◌, subst}
use mathlib.Core.Bool.{Bool, true, false}
use mathlib.Core.List.{List}
use mathlib.Core.Logic.{⊎_elim}
use Prim.Native.Nat.{ℕ, ◌+◌, ◌*◌, ◌≤◌, ◌<◌}
use native.Mathlib.Nat.{eq-or-lt_of_le, mul-le-mul_right, mul-lt-mul_of_pos_right, lt_of_mul-lt-mul_right}
use native.Mathlib.Omega.{arith}
use borrow.Author.Tests.{ltb-true, ltb-false, lt-ltb, le-ltb}
use lib.Dec.{ltb}
use lib.IntN.{ℤ}
use Rattle.lags.specs.Lags.{counts, c, d, exceeds}
use Rattle.lags.specs.Search.{beats, Leads, Leading, Inside}
use Rattle.lags.specs.declared.Direction.{Direction}
use Rattle.lags.specs.declared.Best.{Best}
use Rattle.std.specs.Prelude.{Option, Some, None, IfSome}
use Rattle.integers.specs.Truth.{clash}
use Rattle.lags.proofs.Lags.{counted-inside, counted-loud}

-- ---- the order of c²/d

pub ltb_asym : (a b : ℕ) → ltb a b ≡ true → ltb b a ≡ false
ltb_asym a b h = le-ltb b a (let k = ltb-true a b h in omega arith)

-- where m is no less than j and n above m, n is above j
order_trans : (A B C i j k : ℕ) → 0 < j → C * k ≤ A * j → A * i < B * k → C * i < B * j
order_trans A B C i j k h f g = lt_of_mul-lt-mul_right k (omega (arith, mul-le-mul_right i f, mul-lt-mul_of_pos_right {k = j} g h))

module _ (x : List ℤ) (to : Direction) (p : ℕ) where
  exceeds_trans : (n m j : ℕ) → counts x to p j ≡ true → exceeds x to p j m ≡ false → exceeds x to p n m ≡ true → exceeds x to p n j ≡ true
  exceeds_trans n m j h f g =
      lt-ltb _ _
      (order_trans (c x to p m * c x to p m) (c x to p n * c x to p n) (c x to p j * c x to p j) (d x to p n) (d x to p j) (d x to p m)
      (counted-loud x to p j h) (ltb-false _ _ f) (ltb-true _ _ g))

  exceeds_asym : (n j : ℕ) → exceeds x to p n j ≡ true → exceeds x to p j n ≡ false
  exceeds_asym n j h = ltb_asym (c x to p j * c x to p j * d x to p n) (c x to p n * c x to p n * d x to p j) h

  exceeds_irrefl : (n : ℕ) → exceeds x to p n n ≡ false
  exceeds_irrefl n = let a = c x to p n * c x to p n * d x to p n in le-ltb a a (omega arith)

-- ---- what leads after one lag more

module _ (x : List ℤ) (to : Direction) (p lo k : ℕ) where
  -- each of the k + 1 lags is one of the k, or the last
  with_last : (P : ℕ → Type 0) → ((j : ℕ) → j < k → P j) → P k → (j : ℕ) → j < k + 1 → P j
  with_last P f e j h = ⊎_elim (λ (q : j ≡ k). subst P (sym q) e) (λ (q : j < k). f j q) (eq-or-lt_of_le (omega arith))

  abbrev n : ℕ
  n = lo + k

  -- what led still leads where the last lag does not exceed it
  stays : {m c' d' : ℕ} → Leading x to p lo k m c' d' → (counts x to p n ≡ true → exceeds x to p n m ≡ false) → Leading x to p lo (k + 1) m c' d'
  stays {m} l h = record {
    from = l.from;
    below = omega (arith, l.below);
    counted = l.counted;
    is_c = l.is_c;
    is-d = l.is-d;
    before = l.before;
    unexceeded = with_last (λ j. counts x to p (lo + j) ≡ true → exceeds x to p (lo + j) m ≡ false) l.unexceeded h;
  }

  -- the last lag leads where it exceeds all before it that count
  takes : {c' d' : ℕ} → counts x to p n ≡ true → c' ≡ c x to p n → d' ≡ d x to p n
      → ((j : ℕ) → j < k → counts x to p (lo + j) ≡ true → exceeds x to p n (lo + j) ≡ true) → Leading x to p lo (k + 1) n c' d'
  takes h a b f = record {
    from = omega arith;
    below = omega arith;
    counted = h;
    is_c = a;
    is-d = b;
    before = λ j q. f j (omega arith);
    unexceeded =
        with_last (λ j. counts x to p (lo + j) ≡ true → exceeds x to p (lo + j) n ≡ false)
        (λ j q t. exceeds_asym x to p n (lo + j) (f j q t)) (λ t. exceeds_irrefl x to p n);
  }

  pub leads_uncounted : (b : Option Best) → Leads x to p lo k b → counts x to p n ≡ false → Leads x to p lo (k + 1) b
  leads_uncounted None l h = with_last (λ j. counts x to p (lo + j) ≡ false) l h
  leads_uncounted (Some b) l h = stays l (λ t. clash t h)

  -- where the last lag counts, with the sums v and w
  module _ (h : counts x to p n ≡ true) {v w : ℕ} (a : v ≡ c x to p n) (b : w ≡ d x to p n) where
    beats-is : (t : Bool) (best : Best) → Leading x to p lo k best.lag best.c best.d → beats (Some best) v w ≡ t → exceeds x to p n best.lag ≡ t
    beats-is t best l e = sym (λ i. ltb (l.is_c i * l.is_c i * b i) (a i * a i * l.is-d i)) ∙ e

    pub leads_beaten : (best : Option Best) → Leads x to p lo k best → beats best v w ≡ true → Leads x to p lo (k + 1) (Some (record { lag = n; c = v; d = w }))
    leads_beaten None l e = takes h a b (λ j q t. clash t (l j q))
    leads_beaten (Some best) l e = takes h a b (λ j q t. exceeds_trans x to p n best.lag (lo + j) t (l.unexceeded j q t) (beats-is true best l e))

    pub leads_unbeaten : (best : Option Best) → Leads x to p lo k best → beats best v w ≡ false → Leads x to p lo (k + 1) best
    leads_unbeaten None l e = clash refl e
    leads_unbeaten (Some best) l e = stays l (λ t. beats-is false best l e)

-- of no lags none leads
pub leads-start : (x : List ℤ) (to : Direction) (p lo : ℕ) → Leads x to p lo 0 None
leads-start x to p lo j h = absurd (let z : ⊥ = omega arith in z)

-- ---- the samples of what leads lie in the signal

pub leads-inside : (x : List ℤ) (to : Direction) (p lo k : ℕ) → lo + k ≤ p → (b : Option Best) → Leads x to p lo k b → IfSome b (Inside to p)
leads-inside x to p lo k h None l = tt
leads-inside x to p lo k h (Some b) l = record { back = omega (arith, l.below); ahead = omega (arith, counted-inside x to p b.lag l.counted) }
