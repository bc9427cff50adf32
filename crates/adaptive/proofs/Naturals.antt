-- Laws of integers that are natural numbers.
use Prim.Native.Nat.{ℕ, ◌≤◌}
use lib.Dec.{leb→le}
use lib.IntN.{ℤ, pos, negsuc}
use lib.Signed.{◌≤ℤ◌}
use Rattle.integers.specs.Base.{up}

-- between two of them
pub up-between : (a b : ℕ) (z : ℤ) → (pos a ≤ℤ z) × (z ≤ℤ pos b) → (a ≤ up z) × (up z ≤ b)
up-between a b (pos n) h = (leb→le a n h.0.le, leb→le n b h.1.le)
up-between a b (negsuc n) h = absurd h.0.le
