-- What leads after all lags is the best.
use mathlib.Core.Path.{◌≡◌, refl, sym, ap, ◌∙◌, subst}
use mathlib.Core.Bool.{Bool, true, false, cond, not, ◌&&◌, and-false}
use mathlib.Core.List.{List}
use mathlib.Core.Logic.{⊎_elim}
use Prim.Native.Nat.{ℕ, zero, suc, ◌+◌, ◌-◌, ◌<◌}
use native.Mathlib.Nat.{eq-or-lt_of_le, add-zero}
use native.Mathlib.Omega.{arith}
use lib.IntN.{ℤ}
use Rattle.lags.specs.Lags.{counts, c, d, exceeds, unexceeded, first_unexceeded, best_of}
use Rattle.lags.specs.Search.{Leads, Leading}
use Rattle.lags.specs.declared.Direction.{Direction}
use Rattle.lags.specs.declared.Best.{Best}
use Rattle.std.specs.Prelude.{Option, Some, None}

module _ (x : List ℤ) (to : Direction) (p lo : ℕ) where
  -- ---- the test, from the lags' orders

  module _ (m : ℕ) where
    -- whether the lag lo + j counts and exceeds m
    abbrev exceeded : ℕ → Bool
    exceeded j = counts x to p (lo + j) && exceeds x to p (lo + j) m

    unexceeded_all : (k : ℕ) → ((j : ℕ) → j < k → counts x to p (lo + j) ≡ true → exceeds x to p (lo + j) m ≡ false) → unexceeded x to p lo k m ≡ true
    unfolding unexceeded
    unexceeded_all zero f = refl
    unexceeded_all (suc k) f = λ i. unexceeded_all k (λ j h. f j (omega arith)) i && not (none i)
      where
        decided : (a b : Bool) → (a ≡ true → b ≡ false) → (a && b) ≡ false
        decided true b g = g refl
        decided false b g = refl

        none : exceeded k ≡ false
        none = decided (counts x to p (lo + k)) (exceeds x to p (lo + k) m) (f k (omega arith))

    unexceeded-not : (j k : ℕ) → j < k → exceeded j ≡ true → unexceeded x to p lo k m ≡ false
    unfolding unexceeded
    unexceeded-not j zero h e = absurd (let z : ⊥ = omega arith in z)
    unexceeded-not j (suc k) h e =
        ⊎_elim
        (λ (q : j ≡ k).
        let last : exceeded k ≡ true = subst (λ (i : ℕ). exceeded i ≡ true) q e in
        ap (λ (t : Bool). unexceeded x to p lo k m && not t) last ∙ and-false (unexceeded x to p lo k m))
        (λ (q : j < k). ap (λ (t : Bool). t && not (exceeded k)) (unexceeded-not j k q e))
        (eq-or-lt_of_le (omega arith))

  -- ---- the first lag that passes it

  abbrev with_sums_lem : ℕ → Option Best
  with_sums_lem m = Some (record { lag = m; c = c x to p m; d = d x to p m })

  module _ (k : ℕ) where
    abbrev passes : ℕ → Bool
    passes m = counts x to p m && unexceeded x to p lo k m

    abbrev first : ℕ → ℕ → Option Best
    first m j = first_unexceeded x to p lo k m j

    first_step : (t : Bool) (m j : ℕ) → passes (m + 0) ≡ t → first m (suc j) ≡ cond t (with_sums_lem m) (first (suc m) j)
    unfolding first_unexceeded
    first_step t m j e = ap (λ (b : Bool). cond b (with_sums_lem m) (first (suc m) j)) (sym (ap passes (add-zero m)) ∙ e)

    -- a test of the lags from m on is one of those from m + 1 on
    later : (t : Bool) (m i : ℕ) → passes (m + suc i) ≡ t → passes (suc m + i) ≡ t
    later t m i e = subst (λ (n : ℕ). passes n ≡ t) (omega arith) e

    first-none : (m j : ℕ) → ((i : ℕ) → i < j → passes (m + i) ≡ false) → first m j ≡ None
    unfolding first_unexceeded
    first-none m zero f = refl
    first-none m (suc j) f = first_step false m j (f 0 (omega arith)) ∙ first-none (suc m) j (λ i h. later false m i (f (suc i) (omega arith)))

    first-at : (m j i : ℕ) → i < j → ((h : ℕ) → h < i → passes (m + h) ≡ false) → passes (m + i) ≡ true → first m j ≡ with_sums_lem (m + i)
    first-at m zero i l f e = absurd (let z : ⊥ = omega arith in z)
    first-at m (suc j) zero l f e = first_step true m j e ∙ sym (ap with_sums_lem (add-zero m))
    first-at m (suc j) (suc i) l f e =
        first_step false m j (f 0 (omega arith))
        ∙ first-at (suc m) j i (omega arith) (λ h q. later false m h (f (suc h) (omega arith))) (later true m i e)
        ∙ ap with_sums_lem (omega arith)

  -- ---- what leads is the best

  module _ (k m c' d' : ℕ) (l : Leading x to p lo k m c' d') where
    at_place : lo + (m - lo) ≡ m
    at_place = omega (arith, l.from)

    -- a lag before it does not count, or is exceeded by it
    passes-not : (j : ℕ) → lo + j < m → passes k (lo + j) ≡ false
    passes-not j h = decided (counts x to p (lo + j)) refl
      where
        decided : (t : Bool) → counts x to p (lo + j) ≡ t → (t && unexceeded x to p lo k (lo + j)) ≡ false
        decided true e =
            let over : exceeded (lo + j) (m - lo) ≡ true =
            ap (λ (n : ℕ). counts x to p n && exceeds x to p n (lo + j)) at_place ∙ (λ i. l.counted i && l.before j h e i) in
            unexceeded-not (lo + j) (m - lo) k (omega (arith, l.from, l.below)) over
        decided false e = refl

    passes-first : passes k (lo + (m - lo)) ≡ true
    passes-first = ap (passes k) at_place ∙ (λ i. l.counted i && unexceeded_all m k l.unexceeded i)

    leading_best : Some (record { lag = m; c = c'; d = d' }) ≡ best_of x to p lo k
    leading_best =
        (λ i. Some (record { lag = m; c = l.is_c i; d = l.is-d i })) ∙ sym (ap with_sums_lem at_place)
        ∙ sym (first-at k lo k (m - lo) (omega (arith, l.from, l.below)) (λ j h. passes-not j (omega (arith, l.from))) passes-first)

  pub leads_best : (k : ℕ) (b : Option Best) → Leads x to p lo k b → b ≡ best_of x to p lo k
  leads_best k None l = sym (first-none k lo k (λ i h. ap (λ (t : Bool). t && unexceeded x to p lo k (lo + i)) (l i h)))
  leads_best k (Some b) l = leading_best k b.lag b.c b.d l
