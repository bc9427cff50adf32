-- The root by its bits, from the highest.
use mathlib.Core.Path.{◌≡◌, sym, ap, ◌∙◌, subst}
use Prim.Native.Nat.{ℕ, zero, suc, ◌+◌, ◌*◌, ◌-◌, ◌/◌, ◌%◌, ◌^◌, ◌≤◌, ◌<◌}
use native.Mathlib.Nat.{lt_of_lt_of_le, mul-le-mul, mod-eq_of_lt, one-mul, pow-succ'}
use native.Mathlib.Omega.{arith}
use lib.Pow.{pow-add, pow-lt, pow_mono, pow_pos}
use Rattle.isqrt.specs.Root.{root, root_unique}

-- the root so far: what its square leaves of v is x, v is below the square of the root so far and 2 ^ log more, and the code's r and bit are these two numbers
pub record Partial (v x r bit : ℕ) : Type 0 where
  pub part : ℕ
  pub log : ℕ
  pub rest : x + part * part ≡ v
  pub above : v < (part + 2 ^ log) * (part + 2 ^ log)
  pub twice : r ≡ part * 2 ^ log
  pub square : bit ≡ 2 ^ log * 2 ^ log / 4
  pub small : part + 2 ^ log ≤ 2 ^ 32

-- of equal numbers
pub partial_same : {v x x' r r' bit : ℕ} → Partial v x r bit → x' ≡ x → r' ≡ r → Partial v x' r' bit
partial_same {v} {x} {x'} {r} {r'} {bit} p e f = subst (λ (y : ℕ). Partial v y r' bit) (sym e) (subst (λ (y : ℕ). Partial v x y bit) (sym f) p)

-- ---- the start: 62 - z / 2 * 2 is twice the place of the root's highest bit, where v has z leading zeros

module _ (v k z : ℕ) (top : v < 2 ^ suc k) (all : z + suc k ≡ 64) where
  abbrev place : ℕ
  place = 31 - z / 2

  first-square : 2 ^ suc place * 2 ^ suc place / 4 ≡ 2 ^ place * 2 ^ place
  first-square = rw (pow-succ' 2 place) (omega arith)

  first_bit : 1 * 2 ^ (62 - z / 2 * 2) % 2 ^ 64 ≡ 2 ^ place * 2 ^ place
  first_bit =
      let twice : 62 - z / 2 * 2 ≡ place + place = omega arith in
      let fits : 2 ^ (place + place) < 2 ^ 64 = pow-lt {i = place + place} {j = 64} (omega arith) in
      rw twice (rw (one-mul (2 ^ (place + place))) (mod-eq_of_lt fits)) ∙ pow-add 2 place place

  pub partial_start : Partial v v 0 (1 * 2 ^ (62 - z / 2 * 2) % 2 ^ 64)
  partial_start = record {
    part = 0;
    log = suc place;
    rest = omega arith;
    above = lt_of_lt_of_le (lt_of_lt_of_le top (pow_mono {i = suc k} {j = suc place + suc place} (omega arith))) (omega (arith, pow-add 2 (suc place) (suc place)));
    twice = omega arith;
    square = first_bit ∙ sym first-square;
    small = omega (arith, pow_mono {i = suc place} {j = 32} (omega arith));
  }

-- ---- a turn, where h is the next bit of the root

module _ (v x part h r bit : ℕ) (rest : x + part * part ≡ v) (above : v < (part + 2 * h) * (part + 2 * h)) (twice : r ≡ part * (2 * h)) (square : bit ≡ h * h) where
  expanded : (part + h) * (part + h) ≡ part * part + (r + bit)
  expanded = omega arith

  next-rest : r + bit ≤ x → x - (r + bit) + (part + h) * (part + h) ≡ v
  next-rest k = omega (arith, expanded)

  next-above : v < (part + h + h) * (part + h + h)
  next-above = omega arith

  next-twice : r / 2 + bit ≡ (part + h) * h
  next-twice = omega arith

  kept_above : x < r + bit → v < (part + h) * (part + h)
  kept_above k = omega (arith, expanded)

  kept-twice : r / 2 ≡ part * h
  kept-twice = omega arith

-- half of 2 ^ log
record Half (log : ℕ) : Type 0 where
  pub low : ℕ
  pub is : 2 ^ log ≡ 2 * 2 ^ low

half : (bit log : ℕ) → bit ≡ 2 ^ log * 2 ^ log / 4 → 0 < bit → Half log
half bit zero e p = absurd (let z : ⊥ = omega arith in z)
half bit (suc j) e p = record { low = j; is = pow-succ' 2 j }

module _ (v x r bit : ℕ) (p : Partial v x r bit) (some : 0 < bit) where
  abbrev low : ℕ
  low = (half bit p.log p.square some).low

  is : 2 ^ p.log ≡ 2 * 2 ^ low
  is = (half bit p.log p.square some).is

  above : v < (p.part + 2 * 2 ^ low) * (p.part + 2 * 2 ^ low)
  above = subst (λ (g : ℕ). v < (p.part + g) * (p.part + g)) is p.above

  twice : r ≡ p.part * (2 * 2 ^ low)
  twice = p.twice ∙ ap (λ (g : ℕ). p.part * g) is

  square : bit ≡ 2 ^ low * 2 ^ low
  square = p.square ∙ ap (λ (g : ℕ). g * g / 4) is ∙ omega arith

  small : p.part + 2 * 2 ^ low ≤ 2 ^ 32
  small = subst (λ (g : ℕ). p.part + g ≤ 2 ^ 32) is p.small

  -- r and bit are the difference of two squares below 2 ^ 64
  pub turn-fits : r + bit < 2 ^ 64
  turn-fits =
      let e = expanded v x p.part (2 ^ low) r bit p.rest above twice square in
      let m = mul-le-mul {n₁ = p.part + 2 ^ low} {m₁ = p.part + 2 ^ low} {n₂ = 2 ^ 32 - 1} {m₂ = 2 ^ 32 - 1} (omega (arith, small, pow_pos low)) (omega (arith, small, pow_pos low)) in
      omega arith

  pub turn-next : r + bit ≤ x → Partial v (x - (r + bit)) (r / 2 + bit) (bit / 4)
  turn-next k = record {
    part = p.part + 2 ^ low;
    log = low;
    rest = next-rest v x p.part (2 ^ low) r bit p.rest above twice square k;
    above = next-above v x p.part (2 ^ low) r bit p.rest above twice square;
    twice = next-twice v x p.part (2 ^ low) r bit p.rest above twice square;
    square = ap (λ (b : ℕ). b / 4) square;
    small = omega (arith, small);
  }

  pub turn-kept : x < r + bit → Partial v x (r / 2) (bit / 4)
  turn-kept k = record {
    part = p.part;
    log = low;
    rest = p.rest;
    above = kept_above v x p.part (2 ^ low) r bit p.rest above twice square k;
    twice = kept-twice v x p.part (2 ^ low) r bit p.rest above twice square;
    square = ap (λ (b : ℕ). b / 4) square;
    small = omega (arith, small);
  }

-- ---- the end

last : (v x r bit part log : ℕ) → x + part * part ≡ v → v < (part + 2 ^ log) * (part + 2 ^ log) → r ≡ part * 2 ^ log → bit ≡ 2 ^ log * 2 ^ log / 4 → part + 2 ^ log ≤ 2 ^ 32 → bit ≡ 0 → (r ≡ root v) × (r < 2 ^ 32)
last v x r bit part zero rest above twice square small e =
    let is : r ≡ part = omega arith in
    (is ∙ root_unique v part (record { low = omega arith; high = above }), omega arith)
last v x r bit part (suc j) rest above twice square small e =
    absurd (let s : 2 ^ suc j ≡ 2 * 2 ^ j = pow-succ' 2 j in let q : bit ≡ 2 ^ j * 2 ^ j = square ∙ ap (λ (g : ℕ). g * g / 4) s ∙ omega arith in let z : ⊥ = omega (arith, mul-le-mul {n₁ = 1} {m₁ = 1} {n₂ = 2 ^ j} {m₂ = 2 ^ j} (pow_pos j) (pow_pos j)) in z)

pub partial_end : (v x r bit : ℕ) → Partial v x r bit → bit ≡ 0 → (r ≡ root v) × (r < 2 ^ 32)
partial_end v x r bit p e = last v x r bit p.part p.log p.rest p.above p.twice p.square p.small e
