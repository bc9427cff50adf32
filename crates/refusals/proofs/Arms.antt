-- The kinds of records as the last arm of a match has them.
use mathlib.Core.Path.{◌≡◌, refl}
use Prim.Native.Nat.{ℕ, zero, suc, ◌≤◌}
use native.Mathlib.Omega.{arith}
use Rattle.tables.specs.Constants.{kind_max}

-- none of 0 to 3
pub from_four : (k : ℕ) → (k ≡ 0 → ⊥) → (k ≡ 1 → ⊥) → (k ≡ 2 → ⊥) → (k ≡ 3 → ⊥) → (n : ℕ) × (k ≡ suc (suc (suc (suc n))))
from_four zero a b c d = absurd (a refl)
from_four (suc zero) a b c d = absurd (b refl)
from_four (suc (suc zero)) a b c d = absurd (c refl)
from_four (suc (suc (suc zero))) a b c d = absurd (d refl)
from_four (suc (suc (suc (suc n)))) a b c d = (n, refl)

-- and not above the largest
pub last_kind : (k : ℕ) → (k ≡ 0 → ⊥) → (k ≡ 1 → ⊥) → (k ≡ 2 → ⊥) → (k ≡ 3 → ⊥) → k ≤ kind_max → k ≡ kind_max
last_kind k a b c d h = let f = from_four k a b c d in omega (arith, f.1, h)
