-- Values of gain and tilt that document 01 gives or asks for, by computation.
use mathlib.Core.Path.{◌≡◌, refl}
use lib.IntN.{pos, negsuc}
use Rattle.integers.specs.Base.{saturated}
use Rattle.postfilter.specs.Postfilter.{tilt_of, smoothed, towards}

-- towards 0 a gain of 1 falls by 1: the floor of -1/16
pub towards_0_of_1 : towards (pos 0) (pos 1) ≡ pos 0
towards_0_of_1 = refl

-- upwards it rests where less than 16 is left: the floor of 5/16
pub towards_5_of_0 : towards (pos 5) (pos 0) ≡ pos 0
towards_5_of_0 = refl

pub towards-most_of_one : towards (pos 1048576) (pos 4096) ≡ pos 69376
towards-most_of_one = refl

-- -32768/3 is truncated; its floor is -10923
pub tilt_of_minus_third : tilt_of (negsuc 0) 3 ≡ negsuc 10921
tilt_of_minus_third = refl

-- -1/4 is floored; truncated it is 0
pub smoothed_minus_1 : smoothed (negsuc 0) (pos 0) ≡ negsuc 0
unfolding saturated
smoothed_minus_1 = refl
