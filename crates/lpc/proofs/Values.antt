-- Values that document 01 gives for cosines, by computation.
use mathlib.Core.Path.{◌≡◌, refl}
use lib.IntN.{pos, negsuc}
use Rattle.tables.specs.Tables.{cosines}
use Rattle.lpc.specs.Lpc.{cosine}

pub cosine_of_minus_5 : cosine (negsuc 4) ≡ pos 16384
unfolding cosines
cosine_of_minus_5 = refl

pub cosine_of_0 : cosine (pos 0) ≡ pos 16384
unfolding cosines
cosine_of_0 = refl

pub cosine_of_64 : cosine (pos 64) ≡ pos 16383
unfolding cosines
cosine_of_64 = refl

pub cosine_of_32767 : cosine (pos 32767) ≡ negsuc 16383
unfolding cosines
cosine_of_32767 = refl
