-- Laws of sums, and of a loop that sums into a signed number.
use Rattle.std.specs.Prelude.{◌≡◌, refl, ℕ, zero, suc, ◌+◌, ◌*◌, ◌^◌, ◌≤◌, ◌<◌, ℤ, pos, negsuc, nat_abs, ◌+ℤ◌, ◌*ℤ◌, ◌≤ℤ◌}
use Rattle.std.proofs.Common.{sym, ap, ◌∙◌, subst, le_trans, lt_of_le_of_lt, mul-le-mul_right, add-one, arith, to_z-of_z}
use Rattle.std.specs.Int.Signed.{mag, ≤ℤ_refl}
use Rattle.std.specs.Int.{Width}
use mir.Val.{SFits, hbits, to_z, of_z}
use Rattle.integers.specs.Base.{sum_to, Within, Sums}
use Rattle.integers.specs.Bound.{within-add, within-le, mag-abs}
use Rattle.integers.specs.Linear.{line, line-add}

-- ---- sums

pub sum-zero : (f : ℕ → ℤ) → sum_to f 0 ≡ pos 0
unfolding sum_to
sum-zero f = refl

pub sum_step : (f : ℕ → ℤ) (n : ℕ) → sum_to f (n + 1) ≡ sum_to f n +ℤ f n
unfolding sum_to
sum_step f n = rw add-one

pub sum_ext : (f g : ℕ → ℤ) (n : ℕ) → ((i : ℕ) → i < n → f i ≡ g i) → sum_to f n ≡ sum_to g n
unfolding sum_to
sum_ext f g zero h = refl
sum_ext f g (suc n) h = λ i. sum_ext f g n (λ j p. h j (omega arith)) i +ℤ h n (omega arith) i

-- the first term apart
pub sum_first : (f : ℕ → ℤ) (n : ℕ) → sum_to f (n + 1) ≡ f 0 +ℤ sum_to (λ i. f (i + 1)) n
unfolding sum_to
sum_first f zero = omega (line, line-add (pos 0) (f 0), line-add (f 0) (pos 0))
sum_first f (suc n) =
    let g : ℕ → ℤ = λ i. f (i + 1) in
    let e : suc n + 1 ≡ suc (n + 1) = omega arith in
    rw e (ap (λ (z : ℤ). z +ℤ f (n + 1)) (sum_first f n) ∙ regroup (f 0) (sum_to g n) (f (n + 1)))
  where
    regroup : (a b c : ℤ) → (a +ℤ b) +ℤ c ≡ a +ℤ (b +ℤ c)
    regroup a b c = omega (line, line-add (a +ℤ b) c, line-add a b, line-add b c, line-add a (b +ℤ c))

-- ---- bounds of sums

pub within-sum : (f : ℕ → ℤ) (B : ℕ) → ((j : ℕ) → Within B (f j)) → (n : ℕ) → Within (n * B) (sum_to f n)
unfolding sum_to
within-sum f B h zero = record { within = omega arith }
within-sum f B h (suc n) = record { within = omega (arith, (within-add (within-sum f B h n) (h n)).within) }

-- the bound of N terms holds of fewer
pub within-sum-to : (f : ℕ → ℤ) (B N : ℕ) → ((j : ℕ) → Within B (f j)) → (n : ℕ) → n ≤ N → Within (N * B) (sum_to f n)
within-sum-to f B N h n k = within-le (within-sum f B h n) (mul-le-mul_right B k)

-- a sum of numbers that are not negative, as a sum of squares, is none
pub sum_nonneg : (f : ℕ → ℤ) → ((i : ℕ) → pos 0 ≤ℤ f i) → (n : ℕ) → pos 0 ≤ℤ sum_to f n
unfolding sum_to
sum_nonneg f h zero = ≤ℤ_refl (pos 0)
sum_nonneg f h (suc n) = omega (line, line-add (sum_to f n) (f n), sum_nonneg f h n, h n)

pub square-is : (z : ℤ) → z *ℤ z ≡ pos (nat_abs z * nat_abs z)
square-is (pos n) = refl
square-is (negsuc n) = refl

-- ---- the loop: its start, what its addition needs, a turn, and its end after N turns

pub sums-start : {w : Width} (f : ℕ → ℤ) (B acc : ℕ) → to_z w acc ≡ pos 0 → Sums w f B acc 0
sums-start f B acc e = record { small = record { within = rw (sum-zero f) (omega arith) }; is = e ∙ sym (sum-zero f) }

pub sums-fits : (N : ℕ) {w : Width} {f : ℕ → ℤ} {B acc j : ℕ} → Sums w f B acc j → j < N → (v : ℤ) → Within B v → N * B < 2 ^ hbits w → SFits w (to_z w acc +ℤ v)
sums-fits N {w} {f} {B} {acc} {j} a h v b k = record { sfits = rw a.is (lt_of_le_of_lt (le_trans (mag-abs (sum_to f j +ℤ v)) bounded.within) k) }
  where
    bounded : Within (N * B) (sum_to f j +ℤ v)
    bounded = within-le (within-add a.small b) (omega (arith, mul-le-mul_right B h))

pub sums_next : {w : Width} {f : ℕ → ℤ} {B acc j : ℕ} → Sums w f B acc j → (v r : ℤ) → Within B v → v ≡ f j → r ≡ to_z w acc +ℤ v → mag r < 2 ^ hbits w → Sums w f B (of_z w r) (j + 1)
sums_next {w} {f} {B} {acc} {j} a v r b e q m = record {
  small = rw (sum_step f j) (subst (λ (z : ℤ). Within ((j + 1) * B) (sum_to f j +ℤ z)) e (within-le (within-add a.small b) (omega arith)));
  is = to_z-of_z {w = w} (record { sfits = m }) ∙ q ∙ (λ i. a.is i +ℤ e i) ∙ sym (sum_step f j);
}

pub sums_end : (N : ℕ) {w : Width} {f : ℕ → ℤ} {B acc j : ℕ} → Sums w f B acc j → j ≡ N → (to_z w acc ≡ sum_to f N) × Within (N * B) (to_z w acc)
sums_end N {w} {f} {B} {acc} {j} a e = (a.is ∙ ap (sum_to f) e, rw a.is (within-le a.small (omega (arith, ap (λ (n : ℕ). n * B) e))))
