-- The floor of the square root (the Rust's isqrt64).
use Rattle.std.specs.Prelude.{◌≡◌, refl, Bool, true, false, cond, ℕ, zero, suc, ◌+◌, ◌*◌, ◌≤◌, ◌<◌, leb}
use Rattle.std.proofs.Common.{⊎_elim, mul-le-mul, arith, leb-true, leb-false}
use Rattle.integers.specs.Natural.{le-or-lt}

-- counted up: one more at each number that reaches the next square
unfoldable pub root : ℕ → ℕ
root zero = 0
root (suc n) = cond (leb ((root n + 1) * (root n + 1)) (suc n)) (root n + 1) (root n)

-- r is the floor of v's root: its square is at most v, the next square above
pub record IsRoot (v r : ℕ) : Type 0 where
  pub low : r * r ≤ v
  pub high : v < (r + 1) * (r + 1)

pub root_is : (v : ℕ) → IsRoot v (root v)
unfolding root
root_is zero = record { low = omega arith; high = omega arith }
root_is (suc n) = decided (root_is n) (leb ((root n + 1) * (root n + 1)) (suc n)) refl
  where
    decided : IsRoot n (root n) → (b : Bool) → leb ((root n + 1) * (root n + 1)) (suc n) ≡ b → IsRoot (suc n) (cond b (root n + 1) (root n))
    decided i true e = record { low = leb-true _ _ e; high = omega (arith, i.high) }
    decided i false e = record { low = omega (arith, i.low); high = leb-false _ _ e }

at_most : (v r s : ℕ) → IsRoot v r → IsRoot v s → r ≤ s
at_most v r s i j =
    ⊎_elim (λ h. h) (λ (h : s < r). absurd (omega (arith, i.low, j.high, mul-le-mul {n₁ = s + 1} {m₁ = s + 1} {n₂ = r} {m₂ = r} (omega arith) (omega arith))))
    (le-or-lt r s)

pub root_unique : (v r : ℕ) → IsRoot v r → r ≡ root v
root_unique v r i = omega (arith, at_most v r (root v) i (root_is v), at_most v (root v) r (root_is v) i)
