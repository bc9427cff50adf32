-- Linear arithmetic on integers by `omega`: an integer is `up z - down z`.
-- `omega (line, line-add a b, ..)` proves an order or an equation of ℤ from those in reach, with one listed fact for each sum, difference, negation, multiple by a literal and floor quotient that stands in them.
use Rattle.std.specs.Prelude.{◌≡◌, refl, Bool, true, false, not, ◌⊎◌, ℕ, zero, suc, ◌+◌, ◌-◌, ◌*◌, ◌^◌, ◌≤◌, ◌<◌, T, ltb, ℤ, pos, negsuc, nat_abs, neg_ℤ, ◌+ℤ◌, ◌-ℤ◌, ◌*ℤ◌, ◌≤ℤ◌, ◌<ℤ◌}
use Rattle.std.proofs.Common.{sym, ap, ◌∙◌, subst, inl, inr, ⊎_elim, lt_of_le_of_lt, mul_assoc, zero-mul, arith, leb→le, le→leb, ltb→lt, lt→ltb, nltb→le}
use Rattle.std.proofs.Math.Nat.{mul-div-le, lt-mul-div-succ}
use Rattle.std.proofs.Math.IntN.{sub_ℕ}
use Rattle.std.specs.Int.Signed.{mag, shr_z, le_z, lt_z}
use Rattle.std.specs.Int.{Width}
use mir.Val.{SFits, hbits}
use Rattle.integers.specs.Base.{floor_div, up, down}
use Rattle.integers.specs.Natural.{cond_elim}

-- ---- operations

line_subℕ : (a b : ℕ) → up (sub_ℕ a b) + b ≡ down (sub_ℕ a b) + a
line_subℕ a b =
    cond_elim (ltb a b) (negsuc (b - suc a)) (pos (a - b)) (λ z. up z + b ≡ down z + a)
    (λ t. omega (arith, ltb→lt a b t)) (λ t. omega (arith, nltb→le a b t))

pub line-add : (x y : ℤ) → up (x +ℤ y) + (down x + down y) ≡ down (x +ℤ y) + (up x + up y)
line-add (pos a) (pos b) = omega arith
line-add (pos a) (negsuc b) = omega (arith, line_subℕ a (suc b))
line-add (negsuc a) (pos b) = omega (arith, line_subℕ b (suc a))
line-add (negsuc a) (negsuc b) = omega arith

pub line-neg : (x : ℤ) → up (neg_ℤ x) + up x ≡ down (neg_ℤ x) + down x
line-neg (pos zero) = refl
line-neg (pos (suc n)) = omega arith
line-neg (negsuc n) = omega arith

pub line-sub : (x y : ℤ) → up (x -ℤ y) + (down x + up y) ≡ down (x -ℤ y) + (up x + down y)
line-sub x y = omega (arith, line-add x (neg_ℤ y), line-neg y)

-- a multiple by a literal: `line-mul x 8`
pub line-mul : (x : ℤ) (k : ℕ) → up (x *ℤ pos k) + down x * k ≡ down (x *ℤ pos k) + up x * k
line-mul (pos a) k = omega arith
line-mul (negsuc a) k = negated (suc a * k)
  where
    negated : (n : ℕ) → up (neg_ℤ (pos n)) + n ≡ down (neg_ℤ (pos n)) + 0 * k
    negated zero = omega arith
    negated (suc n) = omega arith

-- a multiple by a product, by its parts
pub mul_pos : (z : ℤ) (m n : ℕ) → z *ℤ pos (m * n) ≡ z *ℤ pos m *ℤ pos n
mul_pos (pos a) m n = ap pos (sym (mul_assoc a m n))
mul_pos (negsuc a) m n = ap (λ (k : ℕ). neg_ℤ (pos k)) (sym (mul_assoc (suc a) m n)) ∙ negated (suc a * m)
  where
    negated : (k : ℕ) → neg_ℤ (pos (k * n)) ≡ neg_ℤ (pos k) *ℤ pos n
    negated zero = ap (λ (k : ℕ). neg_ℤ (pos k)) (zero-mul n) ∙ sym (ap pos (zero-mul n))
    negated (suc k) = refl

-- a floor quotient by a literal: `line-shr x 16 (lit≤ tt)`
pub line-shr : (z : ℤ) (m : ℕ) → 0 < m → (m * up (shr_z z m) + down z ≤ up z + m * down (shr_z z m)) × (up z + m * down (shr_z z m) < m * up (shr_z z m) + down z + m)
line-shr (pos a) m h = (omega (arith, mul-div-le a m), omega (arith, lt-mul-div-succ a h))
line-shr (negsuc a) m h = (omega (arith, lt-mul-div-succ a h), omega (arith, mul-div-le a m))

-- the absolute value, and that one of the two parts is 0
pub line-abs : (z : ℤ) → nat_abs z ≡ up z + down z
line-abs (pos n) = omega arith
line-abs (negsuc n) = omega arith

pub one_sided : (z : ℤ) → (up z ≡ 0) ⊎ (down z ≡ 0)
one_sided (pos n) = inr refl
one_sided (negsuc n) = inl refl

-- ---- orders and equations, each way

le_in : (a b : ℤ) → T (le_z a b) → up a + down b ≤ up b + down a
le_in (pos a) (pos b) t = omega (arith, leb→le a b t)
le_in (pos a) (negsuc b) t = absurd t
le_in (negsuc a) (pos b) t = omega arith
le_in (negsuc a) (negsuc b) t = omega (arith, leb→le b a t)

le_out : (a b : ℤ) → up a + down b ≤ up b + down a → T (le_z a b)
le_out (pos a) (pos b) h = le→leb a b (omega arith)
le_out (pos a) (negsuc b) h = absurd (omega arith)
le_out (negsuc a) (pos b) h = tt
le_out (negsuc a) (negsuc b) h = le→leb b a (omega arith)

lt_in : (a b : ℤ) → T (lt_z a b) → up a + down b < up b + down a
lt_in (pos a) (pos b) t = omega (arith, ltb→lt a b t)
lt_in (pos a) (negsuc b) t = absurd t
lt_in (negsuc a) (pos b) t = omega arith
lt_in (negsuc a) (negsuc b) t = omega (arith, ltb→lt b a t)

lt_out : (a b : ℤ) → up a + down b < up b + down a → T (lt_z a b)
lt_out (pos a) (pos b) h = lt→ltb a b (omega arith)
lt_out (pos a) (negsuc b) h = absurd (omega arith)
lt_out (negsuc a) (pos b) h = tt
lt_out (negsuc a) (negsuc b) h = lt→ltb b a (omega arith)

nlt_in : (a b : ℤ) → T (not (lt_z a b)) → up b + down a ≤ up a + down b
nlt_in (pos a) (pos b) t = omega (arith, nltb→le a b t)
nlt_in (pos a) (negsuc b) t = omega arith
nlt_in (negsuc a) (pos b) t = absurd t
nlt_in (negsuc a) (negsuc b) t = omega (arith, nltb→le b a t)

pub ≤-in : (a b : ℤ) → a ≤ℤ b → up a + down b ≤ up b + down a
≤-in a b h = le_in a b h.le

pub ≤-out : (a b : ℤ) → up a + down b ≤ up b + down a → a ≤ℤ b
≤-out a b h = record { le = le_out a b h }

pub <-in : (a b : ℤ) → a <ℤ b → up a + down b < up b + down a
<-in a b h = lt_in a b h.lt

pub <-out : (a b : ℤ) → up a + down b < up b + down a → a <ℤ b
<-out a b h = record { lt = lt_out a b h }

pub ≡-in : (a b : ℤ) → a ≡ b → up a + down b ≡ up b + down a
≡-in a b e = subst (λ (z : ℤ). up a + down z ≡ up z + down a) e refl

pub ≡-out : (a b : ℤ) → up a + down b ≡ up b + down a → a ≡ b
≡-out (pos a) (pos b) h = ap pos (omega arith)
≡-out (pos a) (negsuc b) h = absurd (omega arith)
≡-out (negsuc a) (pos b) h = absurd (omega arith)
≡-out (negsuc a) (negsuc b) h = ap negsuc (omega arith)

-- what a test leaves
pub lt_z_in : (a b : ℤ) → lt_z a b ≡ true → up a + down b < up b + down a
lt_z_in a b e = lt_in a b (subst T (sym e) tt)

pub nlt_z_in : (a b : ℤ) → lt_z a b ≡ false → up b + down a ≤ up a + down b
nlt_z_in a b e = nlt_in a b (subst (λ (t : Bool). T (not t)) (sym e) tt)

-- ---- the set

pub ruleset line = (arith, ≤-in, ≤-out, <-in, <-out, ≡-in, ≡-out, lt_z_in, nlt_z_in)

pub add_cancel : (a b c : ℤ) → a +ℤ c ≡ b +ℤ c → a ≡ b
add_cancel a b c e = omega (line, line-add a c, line-add b c)

-- ---- floor_div is the floor

pub floor_le : (z : ℤ) (m : ℕ) → 0 < m → (floor_div z m *ℤ pos m) ≤ℤ z
floor_le z m h = omega (line, line-shr z m h, line-mul (floor_div z m) m)

pub floor_lt : (z : ℤ) (m : ℕ) → 0 < m → z <ℤ (floor_div z m *ℤ pos m +ℤ pos m)
floor_lt z m h = omega (line, line-shr z m h, line-mul (floor_div z m) m, line-add (floor_div z m *ℤ pos m) (pos m))

-- ---- ranges of types

mag-between : (M : ℕ) (z : ℤ) → negsuc M ≤ℤ z → z ≤ℤ pos M → mag z ≤ M
mag-between M (pos n) h k = leb→le n M k.le
mag-between M (negsuc n) h k = leb→le n M h.le

-- from two bounds: `fits-between 32767 z h k tt`
pub fits-between : {w : Width} (M : ℕ) (z : ℤ) → negsuc M ≤ℤ z → z ≤ℤ pos M → T (ltb M (2 ^ hbits w)) → SFits w z
fits-between {w} M z h k t = record { sfits = lt_of_le_of_lt (mag-between M z h k) (ltb→lt M (2 ^ hbits w) t) }

-- and to them
pub line-fits : {w : Width} (z : ℤ) → SFits w z → (up z < 2 ^ hbits w) × (down z ≤ 2 ^ hbits w)
line-fits (pos n) f = (f.sfits, omega arith)
line-fits (negsuc n) f = (omega (arith, f.sfits), f.sfits)

-- ---- distances

pub distance_le : (a b : ℤ) (k : ℕ) → up a + down b ≤ k + (up b + down a) → up b + down a ≤ k + (up a + down b) → nat_abs (a -ℤ b) ≤ k
distance_le a b k h g =
    ⊎_elim (λ (e : up (a -ℤ b) ≡ 0). omega (arith, line-sub a b, line-abs (a -ℤ b))) (λ (e : down (a -ℤ b) ≡ 0). omega (arith, line-sub a b, line-abs (a -ℤ b)))
    (one_sided (a -ℤ b))

pub distance_ge : (a b : ℤ) → (up a + down b ≤ nat_abs (a -ℤ b) + (up b + down a)) × (up b + down a ≤ nat_abs (a -ℤ b) + (up a + down b))
distance_ge a b = (omega (arith, line-sub a b, line-abs (a -ℤ b)), omega (arith, line-sub a b, line-abs (a -ℤ b)))
