-- Values of the definitions, computed.
use mathlib.Core.Path.{◌≡◌, refl, sym}
use mathlib.Core.List.{[]}
use Prim.Native.Nat.{ℕ}
use lib.Dec.{lit≤, lit<}
use lib.IntN.{pos, negsuc}
use Rattle.integers.specs.Base.{sum_to}
use Rattle.isqrt.specs.Root.{root_unique}
use Rattle.correlation.specs.Correlation.{correlation}
use Rattle.excitation.specs.declared.Rate.{Rate}
use Rattle.excitation.specs.declared.Rate.TheVariants.{High, Low}
use Rattle.pitch.specs.Pitch.{gain, weight, unchanged, mixed_sample, level, level_sample, postfiltered}

-- ---- the gain

pub gain-half : gain 2 4 ≡ 16384
gain-half = refl

pub gain-most : gain 4 4 ≡ 32767
gain-most = refl

pub weight-high : weight High 2 4 ≡ 3072
weight-high = refl

pub weight-low : weight Low 2 4 ≡ 4096
weight-low = refl

pub weight-most : weight Low 4 4 ≡ 8191
weight-most = refl

-- ---- samples, floored and rounded

pub mixed_floored : mixed_sample 4096 (pos 100) (negsuc 0) ≡ pos 99
mixed_floored = refl

pub level-sample-up : level_sample 16384 (pos 3) ≡ pos 2
level-sample-up = refl

pub level-sample-down : level_sample 16384 (negsuc 2) ≡ negsuc 0
level-sample-down = refl

-- ---- the level

pub level-half : level 1 4 ≡ 16384
level-half = sym (root_unique 268435456 16384 (record { low = lit≤ tt; high = lit< tt }))

pub level-one : level 4 4 ≡ 32768
level-one = sym (root_unique 1073741824 32768 (record { low = lit≤ tt; high = lit< tt }))

-- ---- a subframe of which no sample differs from 0

pub postfiltered_silence : (rate : Rate) (lag : ℕ) → postfiltered [] rate 146 lag ≡ unchanged [] 146
unfolding postfiltered correlation sum_to
postfiltered_silence rate lag = refl
