-- Lists that grow at the front, one element a step: which of the elements are the newest.
use mathlib.Core.Path.{◌≡◌, refl, sym, ap, ◌∙◌}
use mathlib.Core.List.{List, [], ◌∷◌, ◌++◌}
use Prim.Native.Nat.{ℕ, zero, suc, ◌+◌, ◌-◌, ◌≤◌, ◌<◌}
use native.Mathlib.Numerals.{add-one}
use native.Mathlib.Omega.{arith}
use lib.ListN.{take}
use lib.IntN.{ℤ, pos}
use Rattle.integers.specs.Base.{entry, tabulate}
use Rattle.integers.specs.Fill.{tabulate-at, tabulate_ext}

-- the first element apart
pub tabulate-first : {A : Type 0} (f : ℕ → A) (n : ℕ) → tabulate f (suc n) ≡ f 0 ∷ tabulate (λ i. f (suc i)) n
unfolding tabulate
tabulate-first f zero = refl
tabulate-first f (suc n) = ap (λ r. r ++ (f (suc n) ∷ [])) (tabulate-first f n)

-- where step n puts the element n of a list in front, the newest are the last of that list, backwards
module _ (after : ℕ → List ℤ) (out : List ℤ) (N : ℕ) (step : (n : ℕ) → n < N → after (n + 1) ≡ entry out n ∷ after n) where
  pub newest : (k n : ℕ) → k ≤ n → n ≤ N → take k (after n) ≡ tabulate (λ j. entry out (n - 1 - j)) k
  unfolding tabulate
  newest zero n p q = refl
  newest (suc k) zero p q = absurd (let z : ⊥ = omega arith in z)
  newest (suc k) (suc n) p q =
      let latest = ap after (sym (add-one n)) ∙ step n (omega arith) in
      let first : n ≡ suc n - 1 - 0 = omega arith in
      let rest = tabulate_ext (λ j. entry out (n - 1 - j)) (λ j. entry out (suc n - 1 - suc j)) k (λ j h. ap (entry out) (omega arith)) in
      ap (take (suc k)) latest
      ∙ (λ i. entry out (first i) ∷ (newest k n (omega arith) (omega arith) ∙ rest) i)
      ∙ sym (tabulate-first (λ j. entry out (suc n - 1 - j)) k)

-- each list's newest, first to last, is such a list
pub step-tabulate : (after : ℕ → List ℤ) {v : ℕ → ℤ} → ((n : ℕ) → after (n + 1) ≡ v n ∷ after n) → (N n : ℕ) → n < N →
    after (n + 1) ≡ entry (tabulate (λ k. entry (after (k + 1)) 0) N) n ∷ after n
step-tabulate after step N n h =
    let read = tabulate-at (λ k. entry (after (k + 1)) 0) N n (pos 0) h ∙ ap (λ (q : List ℤ). entry q 0) (step n) in
    step n ∙ (λ i. sym read i ∷ after n)
