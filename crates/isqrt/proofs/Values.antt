-- Values that document 01 gives for roots, by computation.
use mathlib.Core.Path.{◌≡◌, refl}
use Rattle.isqrt.specs.Root.{root}

pub root_of_15 : root 15 ≡ 3
unfolding root
root_of_15 = refl

pub root_of_16 : root 16 ≡ 4
unfolding root
root_of_16 = refl
