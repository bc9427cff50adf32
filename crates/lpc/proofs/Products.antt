-- Laws of products of factors: their steps as a loop over eleven coefficients makes them, and their bounds.
use mathlib.Core.Path.{◌≡◌, refl, sym, ap, ◌∙◌}
use mathlib.Core.Bool.{cond}
use mathlib.Core.List.{List}
use Prim.Native.Nat.{ℕ, zero, suc, ◌+◌, ◌-◌, ◌*◌, ◌^◌, ◌≤◌, ◌<◌}
use native.Mathlib.Nat.{pow-suc, pow-le-pow_right}
use native.Mathlib.Numerals.{add-one}
use native.Mathlib.Omega.{arith}
use lib.Dec.{ltb, eqb, lit≤}
use lib.IntN.{ℤ, pos}
use lib.ListN.{set, replicate}
use mir.Syntax.{w16}
use Rattle.integers.specs.Base.{entry, tabulate, Within, AllWithin, AllFit}
use Rattle.integers.specs.Natural.{cond_elim}
use Rattle.integers.specs.Bound.{within-add, within-sub, within-mul, within-shr-by, within-le, within_weaken, within-lit, all_within-tabulate}
use Rattle.integers.specs.Fill.{tabulate-at, tabulate_ext}
use Rattle.tables.specs.Constants.{polynomial_one}
use Rattle.lpc.specs.Lpc.{cosine, coefficient_before, factor_term, times_factor, product, polynomial, rounded_sum, coefficients}
use Rattle.lpc.proofs.Cosines.{cosine-within}

-- ---- steps

pub product-zero : (c : ℕ → ℤ) → set (replicate 11 (pos 0)) 0 (pos polynomial_one) ≡ tabulate (product c 0) 11
unfolding product tabulate
product-zero c = refl

delayed-entry : (f : ℕ → ℤ) (n i d : ℕ) → i < n → coefficient_before (entry (tabulate f n)) i d ≡ coefficient_before f i d
delayed-entry f n i d h = ap (λ (z : ℤ). cond (ltb i d) (pos 0) z) (tabulate-at f n (i - d) (pos 0) (omega arith))

times_entry : (f : ℕ → ℤ) (c : ℤ) (n i : ℕ) → i < n → times_factor (entry (tabulate f n)) c i ≡ times_factor f c i
times_entry f c n i h =
    λ k. factor_term c (tabulate-at f n i (pos 0) h k) (delayed-entry f n i 1 h k) (delayed-entry f n i 2 h k)

product_suc : (c : ℕ → ℤ) (k i : ℕ) → product c (k + 1) i ≡ times_factor (product c k) (c k) i
unfolding product
product_suc c k i = ap (λ (n : ℕ). product c n i) (add-one k)

pub product-step : (c : ℕ → ℤ) (k n : ℕ) → tabulate (times_factor (entry (tabulate (product c k) n)) (c k)) n ≡ tabulate (product c (k + 1)) n
product-step c k n = tabulate_ext _ _ n (λ i h. times_entry (product c k) (c k) n i h ∙ sym (product_suc c k i))

-- ---- bounds

pub before-within : {B : ℕ} {f : ℕ → ℤ} → ((i : ℕ) → Within B (f i)) → (i d : ℕ) → Within B (coefficient_before f i d)
before-within {B} {f} h i d = cond_elim (ltb i d) (pos 0) (f (i - d)) (Within B) (λ t. record { within = omega arith }) (λ t. h (i - d))

times_within : (B : ℕ) {f : ℕ → ℤ} {c : ℤ} → ((i : ℕ) → Within B (f i)) → Within (2 ^ 15) c → (i : ℕ) → Within (B * 6) (times_factor f c i)
times_within B h w i =
    within-le (within-add (within-sub (h i) (within-shr-by (4 * B) 8192 (lit≤ tt) (within-le (within-mul (before-within h i 1) w) (omega arith)))) (before-within h i 2))
    (omega arith)

module _ {c : ℕ → ℤ} (h : (k : ℕ) → Within (2 ^ 15) (c k)) where
  product_grows : (n i : ℕ) → Within (2 ^ 24 * 6 ^ n) (product c n i)
  unfolding product
  product_grows zero i = cond_elim (eqb i 0) (pos polynomial_one) (pos 0) (Within (2 ^ 24)) (λ t. within-lit tt) (λ t. within-lit tt)
  product_grows (suc n) i = within-le (times_within (2 ^ 24 * 6 ^ n) (product_grows n) (h n) i) (omega (arith, pow-suc 6 n))

  pub product-within : (n : ℕ) → n ≤ 5 → (i : ℕ) → Within (2 ^ 37) (product c n i)
  product-within n p i = let g : 6 ^ n ≤ 6 ^ 5 = pow-le-pow_right (lit≤ tt) p in within-le (product_grows n i) (omega arith)

-- ---- `polynomial`

-- the c of its factor k
abbrev pub factor_cosine : List ℤ → ℕ → ℕ → ℤ
factor_cosine p first k = cosine (entry p (2 * k + first))

-- after its first n factors
pub polynomial-within : (p : List ℤ) → AllFit w16 p → (first n : ℕ) → n ≤ 5 → AllWithin (2 ^ 37) (tabulate (product (factor_cosine p first) n) 11)
polynomial-within p h first n l =
    all_within-tabulate 11 (product-within (λ k. within_weaken (cosine-within (entry p (2 * k + first)) (h.at (2 * k + first))) tt) n l)

-- a coefficient from those that the code holds of both
abbrev pub summed : List ℤ → List ℤ → ℕ → ℤ
summed a b j = rounded_sum (entry a (j + 1)) (entry a j) (entry b (j + 1)) (entry b j)

pub summed-coefficients : (p : List ℤ) → tabulate (summed (tabulate (polynomial p 0) 11) (tabulate (polynomial p 1) 11)) 10 ≡ coefficients p
summed-coefficients p =
    let at : (first i : ℕ) → i < 11 → entry (tabulate (polynomial p first) 11) i ≡ polynomial p first i = λ first i h. tabulate-at (polynomial p first) 11 i (pos 0) h in
    tabulate_ext _ _ 10
    (λ j h. let k : j < 11 = omega arith in let m : j + 1 < 11 = omega arith in λ i. rounded_sum (at 0 (j + 1) m i) (at 0 j k i) (at 1 (j + 1) m i) (at 1 j k i))
