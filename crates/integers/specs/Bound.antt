-- Laws of bounds on integers.
use Rattle.std.specs.Prelude.{◌≡◌, refl, List, [], ◌∷◌, ◌++◌, ℕ, zero, suc, ◌+◌, ◌-◌, ◌*◌, ◌/◌, ◌^◌, ◌≤◌, ◌<◌, T, leb, ltb, set, replicate, ℤ, pos, negsuc, nat_abs, neg_ℤ, ◌+ℤ◌, ◌-ℤ◌, ◌*ℤ◌}
use Rattle.std.proofs.Common.{sym, subst, mul-le-mul, le_trans, le_refl, div-le_self, div-lt_iff_lt-mul, arith, leb→le, ltb→lt, to_z-of_z}
use Rattle.std.proofs.Math.Nat.{div-le_of_le-mul}
use Rattle.std.proofs.Math.IntN.{sub_ℕ}
use Rattle.std.specs.Int.Signed.{mag, shr_z, quot_z, nat_abs-le}
use Rattle.std.specs.Int.{Width}
use mir.Val.{SFits, hbits, to_z, of_z}
use Rattle.integers.specs.Base.{Within, AllWithin, entry, tabulate}
use Rattle.integers.specs.Natural.{cond_elim}

-- ---- absolute values

pub mag-abs : (z : ℤ) → mag z ≤ nat_abs z
mag-abs (pos n) = le_refl n
mag-abs (negsuc n) = omega arith

pub abs_neg : (z : ℤ) → nat_abs (neg_ℤ z) ≡ nat_abs z
abs_neg (pos zero) = refl
abs_neg (pos (suc n)) = refl
abs_neg (negsuc n) = refl

pub abs-mul : (x y : ℤ) → nat_abs (x *ℤ y) ≡ nat_abs x * nat_abs y
abs-mul (pos a) (pos b) = refl
abs-mul (pos a) (negsuc b) = abs_neg (pos (a * suc b))
abs-mul (negsuc a) (pos b) = abs_neg (pos (suc a * b))
abs-mul (negsuc a) (negsuc b) = refl

abs_subℕ : (a b A B : ℕ) → a ≤ A → b ≤ B → nat_abs (sub_ℕ a b) ≤ A + B
abs_subℕ a b A B p q =
    cond_elim (ltb a b) (negsuc (b - suc a)) (pos (a - b)) (λ z. nat_abs z ≤ A + B)
    (λ t. omega (arith, ltb→lt a b t)) (λ t. omega arith)

abs-add : (x y : ℤ) (A B : ℕ) → nat_abs x ≤ A → nat_abs y ≤ B → nat_abs (x +ℤ y) ≤ A + B
abs-add (pos a) (pos b) A B p q = omega arith
abs-add (pos a) (negsuc b) A B p q = abs_subℕ a (suc b) A B p q
abs-add (negsuc a) (pos b) A B p q = omega (arith, abs_subℕ b (suc a) B A q p)
abs-add (negsuc a) (negsuc b) A B p q = omega arith

abs-shr : (z : ℤ) (m : ℕ) → nat_abs (shr_z z m) ≤ nat_abs z
abs-shr (pos a) m = div-le_self a m
abs-shr (negsuc a) m = omega (arith, div-le_self a m)

abs-shr-by : (z : ℤ) (B m : ℕ) → 0 < m → nat_abs z ≤ B * m → nat_abs (shr_z z m) ≤ B
abs-shr-by (pos a) B m p h = div-le_of_le-mul m (omega arith)
abs-shr-by (negsuc a) B m p h = (div-lt_iff_lt-mul p).1 h

abs-quot : (z d : ℤ) → nat_abs (quot_z z d) ≤ nat_abs z
abs-quot (pos a) (pos b) = div-le_self a b
abs-quot (pos a) (negsuc b) = rw (abs_neg (pos (a / suc b))) (div-le_self a (suc b))
abs-quot (negsuc a) (pos b) = rw (abs_neg (pos (suc a / b))) (div-le_self (suc a) b)
abs-quot (negsuc a) (negsuc b) = div-le_self (suc a) (suc b)

-- ---- a bound of each operation

pub within-add : {A B : ℕ} {x y : ℤ} → Within A x → Within B y → Within (A + B) (x +ℤ y)
within-add {A} {B} {x} {y} h k = record { within = abs-add x y A B h.within k.within }

pub within-neg : {B : ℕ} {z : ℤ} → Within B z → Within B (neg_ℤ z)
within-neg {B} {z} h = record { within = rw (abs_neg z) h.within }

pub within-sub : {A B : ℕ} {x y : ℤ} → Within A x → Within B y → Within (A + B) (x -ℤ y)
within-sub h k = within-add h (within-neg k)

pub within-mul : {A B : ℕ} {x y : ℤ} → Within A x → Within B y → Within (A * B) (x *ℤ y)
within-mul {A} {B} {x} {y} h k = record { within = rw (abs-mul x y) (mul-le-mul h.within k.within) }

-- a floor quotient is no larger
pub within-shr : {B : ℕ} {z : ℤ} (m : ℕ) → Within B z → Within B (shr_z z m)
within-shr {B} {z} m h = record { within = le_trans (abs-shr z m) h.within }

-- and divides the bound
pub within-shr-by : (B m : ℕ) {z : ℤ} → 0 < m → Within (B * m) z → Within B (shr_z z m)
within-shr-by B m {z} p h = record { within = abs-shr-by z B m p h.within }

pub within-quot : {B : ℕ} {z : ℤ} (d : ℤ) → Within B z → Within B (quot_z z d)
within-quot {B} {z} d h = record { within = le_trans (abs-quot z d) h.within }

-- ---- other bounds of the same number

pub within-le : {A B : ℕ} {z : ℤ} → Within A z → A ≤ B → Within B z
within-le h k = record { within = le_trans h.within k }

-- where both are literals: `within_weaken h tt`
pub within_weaken : {A B : ℕ} {z : ℤ} → Within A z → T (leb A B) → Within B z
within_weaken {A} {B} h t = within-le h (leb→le A B t)

-- a literal: its own size (`within_num (pos 4096)`), or a given one (`within-lit tt`)
pub within_num : (z : ℤ) → Within (nat_abs z) z
within_num z = record { within = le_refl (nat_abs z) }

pub within-lit : {B : ℕ} {z : ℤ} → T (leb (nat_abs z) B) → Within B z
within-lit {B} {z} t = record { within = leb→le (nat_abs z) B t }

-- ---- bounds and types

pub within-fits : {w : Width} {z : ℤ} → SFits w z → Within (2 ^ hbits w) z
within-fits {w} {z} f = record { within = nat_abs-le z f.sfits }

-- as a read of an element (`.given`) and a call (`.ok`) tell it
pub within-mag : (w : Width) (z : ℤ) → mag z < 2 ^ hbits w → Within (2 ^ hbits w) z
within-mag w z p = within-fits {w = w} (record { sfits = p })

-- `fits-within h tt`
pub fits-within : {w : Width} {B : ℕ} {z : ℤ} → Within B z → T (ltb B (2 ^ hbits w)) → SFits w z
fits-within {w} {B} {z} h t = record { sfits = omega (arith, mag-abs z, h.within, ltb→lt B (2 ^ hbits w) t) }

-- of bits that are read back
pub within-back : {w : Width} {z : ℤ} → SFits w z → Within (2 ^ hbits w) (to_z w (of_z w z))
within-back f = within-fits (subst (SFits _) (sym (to_z-of_z f)) f)

-- ---- lists of which each element is within a bound

zero-within : (B : ℕ) → Within B (pos 0)
zero-within B = record { within = omega arith }

each_set : (B : ℕ) (xs : List ℤ) (k : ℕ) (v : ℤ) → ((i : ℕ) → Within B (entry xs i)) → Within B v → (i : ℕ) → Within B (entry (set xs k v) i)
each_set B [] k v h w i = h i
each_set B (x ∷ xs) zero v h w zero = w
each_set B (x ∷ xs) zero v h w (suc i) = h (suc i)
each_set B (x ∷ xs) (suc k) v h w zero = h zero
each_set B (x ∷ xs) (suc k) v h w (suc i) = each_set B xs k v (λ j. h (suc j)) w i

pub all_within_set : {B : ℕ} {xs : List ℤ} (k : ℕ) {v : ℤ} → AllWithin B xs → Within B v → AllWithin B (set xs k v)
all_within_set {B} {xs} k {v} a w = record { at = each_set B xs k v a.at w }

each_snoc : (B : ℕ) (xs : List ℤ) (v : ℤ) → ((i : ℕ) → Within B (entry xs i)) → Within B v → (i : ℕ) → Within B (entry (xs ++ (v ∷ [])) i)
each_snoc B [] v h w zero = w
each_snoc B [] v h w (suc i) = zero-within B
each_snoc B (x ∷ xs) v h w zero = h zero
each_snoc B (x ∷ xs) v h w (suc i) = each_snoc B xs v (λ j. h (suc j)) w i

each-tabulate : (B : ℕ) (f : ℕ → ℤ) → ((i : ℕ) → Within B (f i)) → (n : ℕ) (i : ℕ) → Within B (entry (tabulate f n) i)
unfolding tabulate
each-tabulate B f h zero i = zero-within B
each-tabulate B f h (suc n) i = each_snoc B (tabulate f n) (f n) (each-tabulate B f h n) (h n) i

pub all_within-tabulate : {B : ℕ} {f : ℕ → ℤ} (n : ℕ) → ((i : ℕ) → Within B (f i)) → AllWithin B (tabulate f n)
all_within-tabulate {B} {f} n h = record { at = each-tabulate B f h n }

each-zero : (B n i : ℕ) → Within B (entry (replicate n (pos 0)) i)
each-zero B zero i = zero-within B
each-zero B (suc n) zero = zero-within B
each-zero B (suc n) (suc i) = each-zero B n i

pub all_within-zero : {B : ℕ} (n : ℕ) → AllWithin B (replicate n (pos 0))
all_within-zero {B} n = record { at = each-zero B n }
