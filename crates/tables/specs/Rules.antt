-- What holds of each cosine, gain and weight. proofs/Rules.antt proves it, by one computed test for each of the three tables.
use Rattle.std.specs.Prelude.{◌≡◌, cond, List, [], ◌∷◌, ℕ, zero, suc, ◌+◌, ◌-◌, ◌*◌, ◌%◌, ◌≤◌, ◌<◌, eqb, ℤ, ◌-ℤ◌, get_or}
use Rattle.integers.specs.Base.{entry, Within}
use Rattle.tables.specs.Tables.{cosines, gains, weights}

-- ---- cosines: none is above 16384 in size, and the next one in the period is at most 201 away

pub record Cosine (k : ℕ) (x : ℤ) : Type 0 where
  pub size : Within 16384 x
  pub next : Within 201 (entry cosines ((k + 1) % 512) -ℤ x)

abbrev pub CosineRule : Type 0
CosineRule = (k : ℕ) → k < 512 → Cosine k (entry cosines k)

-- ---- gains: none is 0, no two are equal, none is above 6623

-- the place of the first entry that is x
unfoldable pub first_index : List ℕ → ℕ → ℕ
first_index [] x = 0
first_index (y ∷ ys) x = cond (eqb x y) 0 (suc (first_index ys x))

pub record Gain (k x : ℕ) : Type 0 where
  pub positive : 0 < x
  pub at_most : x ≤ 6623
  pub indexed : first_index gains x ≡ k

abbrev pub GainRule : Type 0
GainRule = (k : ℕ) → k < 24 → Gain k (get_or gains k 0)

abbrev pub GainDistinct : Type 0
GainDistinct = (i j : ℕ) → i < 24 → j < 24 → get_or gains i 0 ≡ get_or gains j 0 → i ≡ j

-- no gain is above 6623, at any index
abbrev pub GainMost : Type 0
GainMost = (k : ℕ) → get_or gains k 0 ≤ 6623

-- ---- weights: row m, column i is the number of ways to choose 5 - m of 29 - i (document 01, "Pulses")

-- the number of ways to choose k of n
unfoldable pub choose : ℕ → ℕ → ℕ
choose n zero = 1
choose zero (suc k) = 0
choose (suc n) (suc k) = choose n k + choose n (suc k)

abbrev pub WeightRule : Type 0
WeightRule = (m i : ℕ) → m < 6 → i < 30 → get_or weights (m * 30 + i) 0 ≡ choose (29 - i) (5 - m)
