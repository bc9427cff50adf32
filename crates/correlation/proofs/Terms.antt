-- The products that a correlation sums, and what their sum is within.
use mathlib.Core.Path.{◌≡◌, refl, sym, ap, ◌∙◌, subst}
use mathlib.Core.List.{List}
use mathlib.Core.Logic.{◌⊎◌, inl, inr, ⊎_elim}
use Prim.Native.Nat.{ℕ, zero, suc, ◌+◌, ◌-◌, ◌*◌, ◌^◌, ◌≤◌, ◌<◌, min}
use native.Mathlib.Nat.{eq-or-lt_of_le, zero-mul, mul-zero, mul-le-mul_right}
use native.Mathlib.Omega.{arith}
use lib.Dec.{T, ltb}
use lib.IntN.{ℤ, pos, negsuc, neg_ℤ, ◌+ℤ◌, ◌*ℤ◌}
use lib.ListN.{length, get_or-eq_default}
use lib.Signed.{◌≤ℤ◌}
use mir.Syntax.{Width}
use mir.Val.{SFits, hbits}
use Rattle.integers.specs.Base.{sum_to, entry, Within}
use Rattle.integers.specs.Bound.{within-add, within-le, fits-within}
use Rattle.integers.specs.Natural.{le-or-lt}
use Rattle.integers.specs.Linear.{line, line-add}
use Rattle.integers.specs.Sum.{sum-zero, sum_step, sum_nonneg, square-is}
use Rattle.correlation.specs.Correlation.{correlation}

abbrev pub term : List ℤ → ℕ → List ℤ → ℕ → ℕ → ℤ
term x a y b i = entry x (a + i) *ℤ entry y (b + i)

pub correlation-is : (x : List ℤ) (a : ℕ) (y : List ℤ) (b n : ℕ) → correlation x a y b n ≡ sum_to (term x a y b) n
unfolding correlation
correlation-is x a y b n = refl

pub bounded-start : (f : ℕ → ℤ) → Within (0 * 2 ^ 30) (sum_to f 0)
bounded-start f = record { within = rw (sum-zero f) (omega arith) }

pub bounded-next : (f : ℕ → ℤ) (n : ℕ) → Within (n * 2 ^ 30) (sum_to f n) → Within (2 ^ 30) (f n) → Within ((n + 1) * 2 ^ 30) (sum_to f (n + 1))
bounded-next f n s t = record { within = rw (sum_step f n) (omega (arith, (within-add s t).within)) }

-- acc is the sum of n numbers of f, each within B
pub record Summed (B : ℕ) (f : ℕ → ℤ) (acc : ℤ) (n : ℕ) : Type 0 where
  pub is : acc ≡ sum_to f n
  pub small : Within (n * B) acc

pub summed-start : (B : ℕ) (f : ℕ → ℤ) → Summed B f (pos 0) 0
summed-start B f = record { is = sym (sum-zero f); small = record { within = omega arith } }

pub summed-none : (B : ℕ) (f : ℕ → ℤ) → Summed B f (sum_to f 0) 0
summed-none B f = subst (λ (z : ℤ). Summed B f z 0) (sym (sum-zero f)) (summed-start B f)

module _ {B : ℕ} {f : ℕ → ℤ} {acc : ℤ} {n : ℕ} (s : Summed B f acc n) (small : Within B (f n)) where
  pub summed-next : Summed B f (acc +ℤ f n) (n + 1)
  summed-next = record {
    is = ap (λ (z : ℤ). z +ℤ f n) s.is ∙ sym (sum_step f n);
    small = within-le (within-add s.small small) (omega arith);
  }

  pub summed-fits : {w : Width} (N : ℕ) → n < N → T (ltb (N * B) (2 ^ hbits w)) → SFits w (acc +ℤ f n)
  summed-fits {w} N h t = let k : n + 1 ≤ N = omega arith in fits-within (within-le summed-next.small (mul-le-mul_right B k)) t

-- ---- past the end of a signal

zero_left : (z : ℤ) → pos 0 *ℤ z ≡ pos 0
zero_left (pos n) = ap pos (zero-mul n)
zero_left (negsuc n) = ap (λ (k : ℕ). neg_ℤ (pos k)) (zero-mul (suc n))

zero_right : (z : ℤ) → z *ℤ pos 0 ≡ pos 0
zero_right (pos n) = ap pos (mul-zero n)
zero_right (negsuc n) = ap (λ (k : ℕ). neg_ℤ (pos k)) (mul-zero (suc n))

-- a term is 0 past the end of one of the signals
term-past : (x : List ℤ) (a : ℕ) (y : List ℤ) (b i : ℕ) → min (length x - a) (length y - b) ≤ i → term x a y b i ≡ pos 0
term-past x a y b i h =
    ⊎_elim (λ (k : length x ≤ a + i). ap (λ (z : ℤ). z *ℤ entry y (b + i)) (get_or-eq_default x (pos 0) k) ∙ zero_left (entry y (b + i)))
    (λ (k : a + i < length x). let l : length y ≤ b + i = omega arith in ap (λ (z : ℤ). entry x (a + i) *ℤ z) (get_or-eq_default y (pos 0) l) ∙ zero_right (entry x (a + i)))
    (le-or-lt (length x) (a + i))

-- terms that are 0 do not change a sum
sum-rest : (f : ℕ → ℤ) (k n : ℕ) → k ≤ n → ((i : ℕ) → k ≤ i → f i ≡ pos 0) → sum_to f k ≡ sum_to f n
unfolding sum_to
sum-rest f k zero h z = let e : k ≡ 0 = omega arith in ap (sum_to f) e
sum-rest f k (suc n) h z =
    ⊎_elim (λ (e : k ≡ suc n). ap (sum_to f) e)
    (λ (l : k < suc n). let m : k ≤ n = omega arith in sum-rest f k n m z ∙ omega (line, line-add (sum_to f n) (f n), z n m))
    (eq-or-lt_of_le h)

-- k samples are all n, or end with a signal
pub reach_or_end : (n k l m : ℕ) → k ≡ min (min n l) m → (k ≡ n) ⊎ (min l m ≤ k)
reach_or_end n k l m e = ⊎_elim (λ (h : n ≤ min l m). inl (omega arith)) (λ (h : min l m < n). inr (omega arith)) (le-or-lt n (min l m))

-- a correlation over fewer samples, as far as both signals reach
pub correlation_reach : (x : List ℤ) (a : ℕ) (y : List ℤ) (b k n : ℕ) → k ≤ n → (k ≡ n) ⊎ (min (length x - a) (length y - b) ≤ k) → correlation x a y b k ≡ correlation x a y b n
correlation_reach x a y b k n h w =
    correlation-is x a y b k
    ∙ ⊎_elim (λ (e : k ≡ n). ap (sum_to (term x a y b)) e) (λ (l : min (length x - a) (length y - b) ≤ k). sum-rest (term x a y b) k n h (λ i m. term-past x a y b i (omega arith))) w
    ∙ sym (correlation-is x a y b n)

-- ---- energies

pub energy-nonneg : (x : List ℤ) (a n : ℕ) → pos 0 ≤ℤ correlation x a x a n
energy-nonneg x a n = rw (correlation-is x a x a n) (sum_nonneg (term x a x a) (λ i. rw (square-is (entry x (a + i))) (omega line)) n)
