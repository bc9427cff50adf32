-- What the zeros predict: their coefficients are no larger than the table that weights them, so that sums of their products with samples of 16 bits stay below 2 ^ 31.
use mathlib.Core.Path.{◌≡◌, refl, sym, ap, ◌∙◌, subst}
use mathlib.Core.List.{List}
use mathlib.Core.Logic.{⊎_elim}
use Prim.Native.Nat.{ℕ, zero, suc, ◌+◌, ◌-◌, ◌*◌, ◌^◌, ◌≤◌, ◌<◌}
use native.Mathlib.Nat.{eq-or-lt_of_le, le_refl, le_trans}
use native.Mathlib.Omega.{arith}
use lib.Dec.{lit≤}
use lib.IntN.{ℤ, pos, negsuc, nat_abs, ◌+ℤ◌, ◌*ℤ◌}
use lib.ListN.{length, replicate}
use lib.Seq.{get_or-take}
use mir.Syntax.{w16, w32}
use Rattle.integers.specs.Base.{saturated, floor_div, sum_to, entry, tabulate, Within, AllFit, Fills}
use Rattle.integers.specs.Bound.{within-add, within-mul, within-fits, within_num, within-le, within-shr-by, all_within-tabulate, fits-within}
use Rattle.integers.specs.Sum.{sum_step, sum_ext}
use Rattle.integers.specs.Fill.{tabulate-at, tabulate_ext, take-tabulate, entries_all}
use Rattle.tables.specs.Tables.{postfilter_zeros}
use Rattle.basicop.specs.Operators.{mult16}
use Rattle.synthesis.specs.Synthesis.{prediction}
use Rattle.synthesis.proofs.Samples.{read_sixty}
use Rattle.formant.specs.Formant.{weighted, inputs}
use Rattle.formant.proofs.Filters.{inputs-zero, inputs_shift, inputs-newest}

-- ---- the coefficients

saturated-within : (M B : ℕ) (z : ℤ) → Within B z → Within B (saturated M z)
unfolding saturated
saturated-within M B (pos n) h = record { within = omega (arith, h.within) }
saturated-within M B (negsuc n) h = record { within = omega (arith, h.within) }

pub weighted-within : (a : List ℤ) → AllFit w16 a → (table : List ℤ) (j : ℕ) → j < 10 → Within (nat_abs (entry table j)) (entry (weighted a table) j)
weighted-within a f table j h =
    let t = entry table j in
    let p : Within (2 ^ 15 * nat_abs t) (entry a j *ℤ t) = within-mul (within-fits (f.at j)) (within_num t) in
    let q = within-shr-by (nat_abs t) (2 ^ 15) (lit≤ tt) (within-le p (omega arith)) in
    subst (Within (nat_abs t)) (sym (tabulate-at (λ i. mult16 (entry a i) (entry table i)) 10 j (pos 0) h))
    (saturated-within 32767 (nat_abs t) (floor_div (entry a j *ℤ t) (2 ^ 15)) q)

-- ---- sums of products

-- what j products are within
unfoldable total : ℕ → ℕ
total zero = 0
total (suc j) = total j + nat_abs (entry postfilter_zeros j) * 2 ^ 15

total-to : (n j : ℕ) → j ≤ n → total j ≤ total n
unfolding total
total-to zero j h = let e : j ≡ 0 = omega arith in rw e (omega arith)
total-to (suc n) j h =
    ⊎_elim (λ (e : j ≡ suc n). rw e (le_refl (total (suc n))))
    (λ (l : j < suc n). let r = total-to n j (omega arith) in le_trans r (le-add (total n) (nat_abs (entry postfilter_zeros n) * 2 ^ 15)))
    (eq-or-lt_of_le h)
  where
    le-add : (x y : ℕ) → x ≤ x + y
    le-add x y = omega arith

total-most : total 10 ≤ 2 ^ 31 - 1
unfolding total postfilter_zeros
total-most = lit≤ tt

module _ (w line : List ℤ) where
  -- the products for sample n
  abbrev pub term : ℕ → ℕ → ℤ
  term n j = entry w j *ℤ entry line (n + (9 - j))

  -- the sums of j products
  abbrev pub sums : ℕ → List ℤ
  sums j = tabulate (λ n. sum_to (term n) j) 60

  pub sums-start : replicate 60 (pos 0) ≡ sums 0
  unfolding tabulate sum_to
  sums-start = refl

  -- with one product more
  pub sums_next : (j : ℕ) {l : List ℤ} → l ≡ sums j → tabulate (λ n. entry l n +ℤ entry w j *ℤ entry line (n + (9 - j))) 60 ≡ sums (j + 1)
  sums_next j {l} e =
      tabulate_ext (λ n. entry l n +ℤ term n j) (λ n. sum_to (term n) (j + 1)) 60
      (λ n h. ap (λ (z : ℤ). z +ℤ term n j) (read_sixty (λ n. sum_to (term n) j) e n h) ∙ sym (sum_step (term n) j))

  module _ (small : (j : ℕ) → j < 10 → Within (nat_abs (entry postfilter_zeros j)) (entry w j)) (fit : AllFit w16 line) where
    sum-within : (n j : ℕ) → j ≤ 10 → Within (total j) (sum_to (term n) j)
    unfolding total sum_to
    sum-within n zero h = record { within = lit≤ tt }
    sum-within n (suc j) h = within-add (sum-within n j (omega arith)) (within-mul (small j (omega arith)) (within-fits (fit.at (n + (9 - j)))))

    pub sums-fit : (j : ℕ) → j ≤ 10 → AllFit w32 (sums j)
    sums-fit j h =
        let b = all_within-tabulate 60 (λ n. within-le (sum-within n j h) (le_trans (total-to 10 j h) total-most)) in
        record { at = λ i. fits-within {w = w32} (b.at i) tt }

-- ---- the line of inputs, the oldest first

module _ (y memory : List ℤ) where
  abbrev pub placed : ℕ → ℤ
  placed m = entry (inputs y memory 60) (69 - m)

  -- it begins with the memory
  pub placed_memory : (m : ℕ) → m < 10 → placed m ≡ entry memory (9 - m)
  placed_memory m h = inputs_shift y memory 0 60 (9 - m) 60 (69 - m) (omega arith) (omega arith) ∙ ap (λ (q : List ℤ). entry q (9 - m)) (inputs-zero y memory)

  -- and goes on with the subframe
  pub placed_input : (m : ℕ) → 10 ≤ m → m < 70 → placed m ≡ entry y (m - 10)
  placed_input m h k = inputs_shift y memory (suc (m - 10)) (69 - m) 0 60 (69 - m) (omega arith) (omega arith) ∙ inputs-newest y memory (m - 10)

  pub memory_placed : (m : ℕ) → m < 10 → entry memory (9 - m) ≡ placed m
  memory_placed m h = sym (placed_memory m h)

  pub input_placed : (m : ℕ) → 10 ≤ m → m < 70 → entry y (m - 10) ≡ placed m
  input_placed m h k = sym (placed_input m h k)

  -- the sums over it are what is predicted from past inputs
  pub sums-prediction : (w : List ℤ) → sums w (tabulate placed 70) 10 ≡ tabulate (λ n. prediction w (inputs y memory n)) 60
  sums-prediction w =
      tabulate_ext (λ n. sum_to (term w (tabulate placed 70) n) 10) (λ n. prediction w (inputs y memory n)) 60
      (λ n h. sum_ext (term w (tabulate placed 70) n) (λ j. entry w j *ℤ entry (inputs y memory n) j) 10
      (λ j k. ap (λ (z : ℤ). entry w j *ℤ z) (tabulate-at placed 70 (n + (9 - j)) (pos 0) (omega arith) ∙ inputs_shift y memory n (60 - n) j 60 (69 - (n + (9 - j))) (omega arith) (omega arith))))

-- the memory that a line begins with
abbrev pub memory_of : List ℤ → List ℤ
memory_of line = tabulate (λ i. entry line (9 - i)) 10

pub memory_of_lem : (memory line : List ℤ) → length memory ≡ 10 → Fills (λ m. entry memory (9 - m)) 70 line 10 → memory_of line ≡ memory
memory_of_lem memory line e f =
    tabulate_ext (λ i. entry line (9 - i)) (entry memory) 10
    (λ i h.
    let m : 9 - i < 10 = omega arith in
    let back : 9 - (9 - i) ≡ i = omega arith in
    sym (get_or-take 10 line (9 - i) (pos 0) m)
    ∙ ap (λ (q : List ℤ). entry q (9 - i)) f.front
    ∙ tabulate-at (λ m. entry memory (9 - m)) 10 (9 - i) (pos 0) m
    ∙ ap (entry memory) back)
    ∙ entries_all (pos 0) memory 10 e

pub line-start : (y line : List ℤ) → length line ≡ 70 → Fills (placed y (memory_of line)) 70 line 10
line-start y line e = record {
  bound = lit≤ tt;
  len = e;
  front =
      take-tabulate (pos 0) line 10 (omega arith)
      ∙ tabulate_ext (entry line) (placed y (memory_of line)) 10
      (λ i h.
      let m : 9 - i < 10 = omega arith in
      let back : i ≡ 9 - (9 - i) = omega arith in
      ap (entry line) back ∙ sym (tabulate-at (λ i. entry line (9 - i)) 10 (9 - i) (pos 0) m) ∙ sym (placed_memory y (memory_of line) i h));
}
