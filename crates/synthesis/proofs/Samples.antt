-- The samples of a subframe, one by one: before the first, a sample later, and the last ten, which are the memory after it.
use mathlib.Core.Path.{◌≡◌, refl, sym, ap, ◌∙◌}
use mathlib.Core.List.{List, ◌∷◌}
use Prim.Native.Nat.{ℕ, zero, suc, ◌+◌, ◌≤◌, ◌<◌}
use native.Mathlib.Numerals.{add-one}
use native.Mathlib.Omega.{arith}
use lib.IntN.{ℤ, pos, ◌+ℤ◌}
use lib.ListN.{take}
use Rattle.integers.specs.Base.{entry, tabulate}
use Rattle.integers.specs.Fill.{tabulate-at, tabulate_ext}
use Rattle.filters.specs.Filters.{last_ten}
use Rattle.synthesis.specs.Synthesis.{prediction, rounded, driven, driven_subframe, driven_memory}
use Rattle.synthesis.proofs.Newest.{newest, step-tabulate}

module _ (a : List ℤ) (v : ℕ → ℤ) (memory : List ℤ) where
  pub driven-zero : driven a v memory 0 ≡ memory
  unfolding driven
  driven-zero = refl

  pub driven-step : (n : ℕ) → driven a v memory (n + 1) ≡ rounded (v n +ℤ prediction a (driven a v memory n)) ∷ driven a v memory n
  unfolding driven
  driven-step n = rw add-one

  pub driven-last : last_ten (driven_subframe a v memory) ≡ driven_memory a v memory
  unfolding last_ten driven_subframe driven_memory
  driven-last =
      let step = step-tabulate (driven a v memory) driven-step 60 in
      sym (newest (driven a v memory) (driven_subframe a v memory) 60 step 10 60 (omega arith) (omega arith))

-- ---- inputs that are the same over a subframe

module _ (a : List ℤ) {u v : ℕ → ℤ} (memory : List ℤ) (alike : (n : ℕ) → n < 60 → u n ≡ v n) where
  same : (n : ℕ) → n ≤ 60 → driven a u memory n ≡ driven a v memory n
  unfolding driven
  same zero h = refl
  same (suc n) h =
      let e = same n (omega arith) in
      let f = alike n (omega arith) in λ i. rounded (f i +ℤ prediction a (e i)) ∷ e i

  pub same_subframe : driven_subframe a u memory ≡ driven_subframe a v memory
  unfolding driven_subframe
  same_subframe =
      tabulate_ext (λ n. entry (driven a u memory (n + 1)) 0) (λ n. entry (driven a v memory (n + 1)) 0) 60
      (λ n h. ap (λ (q : List ℤ). entry q 0) (same (n + 1) (omega arith)))

  pub same_memory : driven_memory a u memory ≡ driven_memory a v memory
  unfolding driven_memory
  same_memory = ap (take 10) (same 60 (omega arith))

-- what is read from a list of sixty
pub read_sixty : {l : List ℤ} (v : ℕ → ℤ) → l ≡ tabulate v 60 → (n : ℕ) → n < 60 → entry l n ≡ v n
read_sixty v e n h = ap (λ (q : List ℤ). entry q n) e ∙ tabulate-at v 60 n (pos 0) h
