-- What is predicted is below 10 * 2 ^ 30.
use mathlib.Core.List.{List}
use Prim.Native.Nat.{◌*◌, ◌^◌}
use lib.IntN.{ℤ, ◌*ℤ◌}
use mir.Syntax.{w16}
use Rattle.integers.specs.Base.{entry, Within, AllFit}
use Rattle.integers.specs.Bound.{within-mul, within-fits}
use Rattle.integers.specs.Sum.{within-sum}
use Rattle.synthesis.specs.Synthesis.{prediction}

pub prediction-within : (a past : List ℤ) → AllFit w16 a → AllFit w16 past → Within (10 * 2 ^ 30) (prediction a past)
prediction-within a past f g = within-sum (λ j. entry a j *ℤ entry past j) (2 ^ 30) (λ j. within-mul (within-fits (f.at j)) (within-fits (g.at j))) 10
