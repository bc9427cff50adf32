-- Laws of squares.
use mathlib.Core.Path.{◌≡◌}
use lib.Dec.{T}
use lib.IntN.{ℤ, pos, nat_abs, ◌*ℤ◌}
use lib.Signed.{non_neg}
use Rattle.integers.specs.Signed.{natural}
use Rattle.integers.specs.Linear.{line}
use Rattle.integers.specs.Sum.{square-is}

-- a square is a natural number, as a cast to an unsigned type has it
pub square-natural : (z : ℤ) → T (non_neg (z *ℤ z)) × (pos (nat_abs (z *ℤ z)) ≡ z *ℤ z)
square-natural z = let n = natural (z *ℤ z) (rw (square-is z) (omega line)) in (n.0, n.1)
