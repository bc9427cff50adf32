-- first_highest is the place of the first highest.
use mathlib.Core.Path.{◌≡◌, refl, sym, subst}
use mathlib.Core.Bool.{Bool, true, false, cond}
use mathlib.Core.Logic.{⊎_elim}
use Prim.Native.Nat.{ℕ, zero, suc, ◌≤◌, ◌<◌}
use native.Mathlib.Nat.{eq-or-lt_of_le, le_refl}
use native.Mathlib.Omega.{arith}
use borrow.Author.Tests.{ltb-true, ltb-false}
use lib.Dec.{ltb}
use Rattle.voicing.specs.Voicing.{first_highest, FirstHighest}

module _ (f : ℕ → ℕ) where
  -- m is the place of the first highest of f 0, f 1, …, f n
  abbrev Highest : ℕ → ℕ → Type 0
  Highest n m = ((i : ℕ) → i ≤ n → f i ≤ f m) × ((i : ℕ) → i < m → f i < f m)

  -- of 0 … n + 1, each is one of 0 … n or the last
  with_last : (n m : ℕ) → ((i : ℕ) → i ≤ n → f i ≤ f m) → f (suc n) ≤ f m → (i : ℕ) → i ≤ suc n → f i ≤ f m
  with_last n m h l i p =
      ⊎_elim (λ (q : i ≡ suc n). subst (λ (j : ℕ). f j ≤ f m) (sym q) l) (λ (q : i < suc n). h i (omega arith))
      (eq-or-lt_of_le p)

  highest-next : (n k : ℕ) → Highest n k → (t : Bool) → ltb (f k) (f (suc n)) ≡ t → Highest (suc n) (cond t (suc n) k)
  highest-next n k h true e =
      let above : f k < f (suc n) = ltb-true (f k) (f (suc n)) e in (
        with_last n (suc n) (λ i p. omega (arith, h.0 i p)) (le_refl (f (suc n))),
        λ i p. omega (arith, h.0 i (omega arith)),
      )
  highest-next n k h false e = (with_last n k h.0 (ltb-false (f k) (f (suc n)) e), h.1)

pub first-highest : FirstHighest
unfolding first_highest
first-highest f zero = (λ i p. subst (λ (j : ℕ). f j ≤ f 0) (omega arith) (le_refl (f 0)), λ i p. absurd (omega arith))
first-highest f (suc n) =
    let k = first_highest f n in
    highest-next f n k (first-highest f n) (ltb (f k) (f (suc n))) refl
