-- A value that document 01 gives for the operators, by computation.
use mathlib.Core.Path.{◌≡◌, refl}
use lib.IntN.{pos, negsuc}
use Rattle.integers.specs.Base.{saturated}
use Rattle.basicop.specs.Operators.{mult16}

-- -32768 times -32768
pub mult_least : mult16 (negsuc 32767) (negsuc 32767) ≡ pos 32767
unfolding saturated
mult_least = refl
