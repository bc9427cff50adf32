-- Laws of the tests of a state.
use mathlib.Core.Path.{◌≡◌, refl, sym, ap, ◌∙◌, subst}
use mathlib.Core.Bool.{Bool, true, false, not, ◌&&◌}
use mathlib.Core.Logic.{⊎_elim}
use Prim.Native.Nat.{ℕ, zero, suc, ◌+◌, ◌≤◌, ◌<◌}
use native.Mathlib.Nat.{eq-or-lt_of_le}
use native.Mathlib.Numerals.{add-one}
use native.Mathlib.Omega.{arith}
use lib.Dec.{T}
use lib.IntN.{ℤ}
use lib.Signed.{lt_z, ◌≤ℤ◌, lt_z_no, clash_ℤ, lt_z_yes}
use Rattle.std.specs.List.{list_all}
use mathlib.Core.List.{List, [], ◌∷◌}
use lib.ListN.{length}
use Rattle.integers.specs.Base.{entry}
use Rattle.integers.specs.Truth.{both, and-regroup}
use Rattle.state.specs.State.{between, all_to}

-- ---- bounds

module _ (lo hi z : ℤ) where
  pub between_in : between lo hi z ≡ true → (lo ≤ℤ z) × (z ≤ℤ hi)
  between_in h =
      let p = both (not (lt_z z lo)) (not (lt_z hi z)) h in
      (lt_z_no (subst T (sym p.0) tt), lt_z_no (subst T (sym p.1) tt))

  pub between_out : lo ≤ℤ z → z ≤ℤ hi → between lo hi z ≡ true
  between_out h k = λ i. not-below z lo h i && not-below hi z k i
    where
      not-below : (a b : ℤ) → b ≤ℤ a → not (lt_z a b) ≡ true
      not-below a b g = decided (lt_z a b) refl
        where
          decided : (t : Bool) → lt_z a b ≡ t → not t ≡ true
          decided true e = clash_ℤ (lt_z_yes (subst T (sym e) tt)) g
          decided false e = refl

-- ---- the first n tests

module _ (t : ℕ → Bool) where
  pub all_zero : all_to t 0 ≡ true
  unfolding all_to
  all_zero = refl

  pub all_step : (n : ℕ) → all_to t (n + 1) ≡ (all_to t n && t n)
  unfolding all_to
  all_step n = ap (all_to t) (add-one n)

  pub all_at : (n : ℕ) → all_to t n ≡ true → (i : ℕ) → i < n → t i ≡ true
  unfolding all_to
  all_at zero h i p = absurd (let z : ⊥ = omega arith in z)
  all_at (suc n) h i p =
      let k = both (all_to t n) (t n) h in
      let m : i ≤ n = omega arith in
      ⊎_elim (λ (e : i ≡ n). ap t e ∙ k.1) (λ (q : i < n). all_at n k.0 i q) (eq-or-lt_of_le m)

  pub all_from : (n : ℕ) → ((i : ℕ) → i < n → t i ≡ true) → all_to t n ≡ true
  unfolding all_to
  all_from zero h = refl
  all_from (suc n) h = λ i. all_from n (λ j p. h j (omega arith)) i && h n (omega arith) i

  -- where one of them fails
  pub all_fails : (n i : ℕ) → i < n → t i ≡ false → false ≡ all_to t n
  all_fails n i p h = decided (all_to t n) refl
    where
      decided : (b : Bool) → all_to t n ≡ b → false ≡ b
      decided true e = sym h ∙ all_at n e i p
      decided false e = refl

-- no more tests
and_true : (b : Bool) → (b && true) ≡ b
and_true true = refl
and_true false = refl

-- the tests of the entries of a list
all_first : (t : ℕ → Bool) (n : ℕ) → (t 0 && all_to (λ i. t (suc i)) n) ≡ all_to t (suc n)
unfolding all_to
all_first t zero = and_true (t 0)
all_first t (suc n) =
    sym (and-regroup (t 0) (all_to (λ i. t (suc i)) n) (t (suc n))) ∙ ap (λ (b : Bool). b && t (suc n)) (all_first t n)

pub all_listed : (t : ℤ → Bool) (xs : List ℤ) → list_all t xs ≡ all_to (λ i. t (entry xs i)) (length xs)
unfolding all_to
all_listed t [] = refl
all_listed t (x ∷ xs) = ap (λ (b : Bool). t x && b) (all_listed t xs) ∙ all_first (λ i. t (entry (x ∷ xs) i)) (length xs)
