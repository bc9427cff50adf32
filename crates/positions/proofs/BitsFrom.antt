-- The bits of slots read one after the other from slot i on: whether the lowest is set tells whether slot i is the first of them.
use mathlib.Core.Path.{◌≡◌, refl, sym, ap, ◌∙◌}
use mathlib.Core.List.{List, [], ◌∷◌}
use mathlib.Core.Logic.{◌⊎◌, inl, inr, ⊎_elim}
use Prim.Native.Nat.{ℕ, suc, ◌+◌, ◌-◌, ◌*◌, ◌%◌, ◌^◌, ◌≤◌, ◌<◌}
use native.Mathlib.Nat.{eq-or-lt_of_le}
use native.Mathlib.Omega.{arith}
use lib.ListN.{length}
use lib.Pow.{pow_pos}
use Rattle.positions.specs.Positions.{bits}
use Rattle.positions.proofs.Order.{Ascends, ascends-none, ascends_first, ascends_cons, ascends-from}
use Rattle.positions.proofs.Bits.{double}

-- the bits of slots, counted from slot i
unfoldable pub bits_from : ℕ → List ℕ → ℕ
bits_from i [] = 0
bits_from i (p ∷ ps) = 2 ^ (p - i) + bits_from i ps

pub bits-first : (ps : List ℕ) → bits ps ≡ bits_from 0 ps
unfolding bits bits_from
bits-first [] = refl
bits-first (p ∷ ps) = let e : p ≡ p - 0 = omega arith in λ t. 2 ^ e t + bits-first ps t

pub bits-later : (i : ℕ) (ps : List ℕ) → Ascends (i + 1) ps → bits_from i ps ≡ 2 * bits_from (i + 1) ps
unfolding bits_from
bits-later i [] a = refl
bits-later i (p ∷ ps) a =
    let f = ascends_first (i + 1) p ps a in
    let m : i + 1 ≤ p = f.0 in
    let e : p - i ≡ (p - (i + 1)) + 1 = omega arith in
    rw e (omega (arith, double (p - (i + 1)), bits-later i ps (ascends-from (suc p) (i + 1) ps (omega arith) f.2)))

-- the first of them is i, or all are later
pub record First (i : ℕ) (ps : List ℕ) : Type 0 where
  pub tail : List ℕ
  pub is : ps ≡ i ∷ tail
  pub ascends : Ascends (i + 1) tail

first-or-later : (i : ℕ) (ps : List ℕ) → Ascends i ps → First i ps ⊎ Ascends (i + 1) ps
first-or-later i [] a = inr (ascends-none (i + 1))
first-or-later i (p ∷ ps) a =
    let f = ascends_first i p ps a in
    ⊎_elim
    (λ (q : i ≡ p). inl (record { tail = ps; is = ap (λ (k : ℕ). k ∷ ps) (sym q); ascends = ascends-from (suc p) (i + 1) ps (omega arith) f.2 }))
    (λ (n : i < p). inr (ascends_cons (i + 1) p ps (omega arith) f.1 f.2))
    (eq-or-lt_of_le f.0)

pub first_odd : (i : ℕ) (ps : List ℕ) (f : First i ps) → bits_from i ps ≡ 1 + 2 * bits_from (i + 1) f.tail
unfolding bits_from
first_odd i ps f = let z : i - i ≡ 0 = omega arith in ap (bits_from i) f.is ∙ rw z (omega (arith, bits-later i f.tail f.ascends))

-- so the lowest bit tells which
pub odd_first : (i : ℕ) (ps : List ℕ) → Ascends i ps → bits_from i ps % 2 ≡ 1 → First i ps
odd_first i ps a e =
    ⊎_elim (λ (f : First i ps). f) (λ (l : Ascends (i + 1) ps). absurd (let z : ⊥ = omega (arith, bits-later i ps l) in z)) (first-or-later i ps a)

pub even-later : (i : ℕ) (ps : List ℕ) → Ascends i ps → (bits_from i ps % 2 ≡ 1 → ⊥) → Ascends (i + 1) ps
even-later i ps a e =
    ⊎_elim (λ (f : First i ps). absurd (e (omega (arith, first_odd i ps f)))) (λ (l : Ascends (i + 1) ps). l) (first-or-later i ps a)

-- there are none where there is no slot
pub bits-none : (i : ℕ) (ps : List ℕ) → bits_from i ps ≡ 0 → ps ≡ []
unfolding bits_from
bits-none i [] e = refl
bits-none i (p ∷ ps) e = absurd (omega (arith, e, pow_pos (p - i)))

pub bits-some : (i : ℕ) (ps : List ℕ) → (bits_from i ps ≡ 0 → ⊥) → 0 < length ps
unfolding bits_from
bits-some i [] n = absurd (n refl)
bits-some i (p ∷ ps) n = omega arith
