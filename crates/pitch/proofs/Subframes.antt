-- Laws of the subframe that is made, in the cases of the code.
use mathlib.Core.Path.{◌≡◌, sym, ap, ◌∙◌}
use mathlib.Core.Bool.{Bool, true, false, cond}
use mathlib.Core.List.{List}
use Prim.Native.Nat.{ℕ, ◌*◌, ◌≤◌, ◌<◌}
use borrow.Author.Tests.{lt-ltb, le-ltb, eq-eqb, ne_eqb}
use lib.Dec.{ltb, eqb}
use lib.IntN.{ℤ, pos, nat_abs}
use Rattle.integers.specs.Base.{entry, tabulate}
use Rattle.correlation.specs.Correlation.{energy}
use Rattle.excitation.specs.declared.Rate.{Rate}
use Rattle.lags.specs.Lags.{window, chosen_lag}
use Rattle.std.specs.Prelude.{Option, Some, None}
use Rattle.lags.specs.declared.Choice.{Choice}
use Rattle.pitch.specs.Pitch.{weight, unchanged, mixed, level, level_sample, levelled, applied, postfiltered}

-- ---- brought to an energy

abbrev scaled : List ℤ → ℕ → List ℤ
scaled v g = tabulate (λ n. level_sample g (entry v n)) 60

module _ (v : List ℤ) (t e : ℕ) (is : pos e ≡ energy v 0 60) where
  by-energy : cond (ltb e t) v (scaled v (level t e)) ≡ levelled v t
  unfolding levelled
  by-energy = ap (λ (z : ℤ). cond (ltb (nat_abs z) t) v (scaled v (level t (nat_abs z)))) is

  pub levelled_less : e < t → v ≡ levelled v t
  levelled_less h = sym (ap (λ (b : Bool). cond b v (scaled v (level t e))) (lt-ltb e t h)) ∙ by-energy

  pub levelled-scaled : t ≤ e → (g : ℕ) → g ≡ level t e → scaled v g ≡ levelled v t
  levelled-scaled h g k = ap (scaled v) k ∙ sym (ap (λ (b : Bool). cond b v (scaled v (level t e))) (le-ltb e t h)) ∙ by-energy

-- ---- with the chosen lag

module _ (x : List ℤ) (rate : Rate) (p t : ℕ) {k : Option Choice} where
  pub applied-none : k ≡ None → unchanged x p ≡ applied x rate p t k
  unfolding applied
  applied-none e = sym (ap (applied x rate p t) e)

  module _ {v : Choice} (e : k ≡ Some v) where
    by_gate : (b : Bool) → ltb (4 * (v.best.c * v.best.c)) (v.best.d * t) ≡ b
        → cond b (unchanged x p) (levelled (mixed x p (window v.to p v.best.lag) (weight rate v.best.c v.best.d)) t) ≡ applied x rate p t k
    unfolding applied
    by_gate b h =
        sym (ap (applied x rate p t) e
        ∙ ap (λ (z : Bool). cond z (unchanged x p) (levelled (mixed x p (window v.to p v.best.lag) (weight rate v.best.c v.best.d)) t)) h)

    pub applied_weak : ltb (4 * (v.best.c * v.best.c)) (v.best.d * t) ≡ true → unchanged x p ≡ applied x rate p t k
    applied_weak h = by_gate true h

    pub applied-mixed : ltb (4 * (v.best.c * v.best.c)) (v.best.d * t) ≡ false → {q w : ℕ} → q ≡ window v.to p v.best.lag → w ≡ weight rate v.best.c v.best.d
        → levelled (mixed x p q w) t ≡ applied x rate p t k
    applied-mixed h a b = (λ i. levelled (mixed x p (a i) (b i)) t) ∙ by_gate false h

-- ---- all of it

module _ (x : List ℤ) (rate : Rate) (p lag t : ℕ) (is : pos t ≡ energy x p 60) where
  abbrev choice : Option Choice
  choice = chosen_lag x p lag

  by_silence : (b : Bool) → eqb t 0 ≡ b → cond b (unchanged x p) (applied x rate p t choice) ≡ postfiltered x rate p lag
  unfolding postfiltered
  by_silence b h =
      sym (ap (λ (e : Bool). cond e (unchanged x p) (applied x rate p t choice)) h)
      ∙ ap (λ (z : ℤ). cond (eqb (nat_abs z) 0) (unchanged x p) (applied x rate p (nat_abs z) choice)) is

  pub postfiltered_silent : t ≡ 0 → unchanged x p ≡ postfiltered x rate p lag
  postfiltered_silent h = by_silence true (eq-eqb t 0 h)

  pub postfiltered-chosen : (t ≡ 0 → ⊥) → (k : Option Choice) → k ≡ choice → applied x rate p t k ≡ postfiltered x rate p lag
  postfiltered-chosen h k e = ap (applied x rate p t) e ∙ by_silence false (ne_eqb t 0 h)
