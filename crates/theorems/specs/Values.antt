-- The starred values of document 01, "Values to check against", all as one table (proofs/Values.antt).
use Rattle.std.specs.Prelude.{◌≡◌, true, false, Some, None, [], ◌∷◌, pos, negsuc}
use Rattle.isqrt.specs.Root.{root}
use Rattle.stability.specs.Stability.{stabilised}
use Rattle.stability.specs.declared.Outcome.TheVariants.{Moved}
use Rattle.lpc.specs.Lpc.{cosine}
use Rattle.positions.specs.Positions.{bits, positions}
use Rattle.positions.specs.declared.Count.TheVariants.{Five, Six}
use Rattle.pulses.specs.Pulses.{vector}
use Rattle.postfilter.specs.Postfilter.{towards}

pub record StarredValues : Type 0 where
  -- cosine of -5 and 0: 16384; of 64: 16383; of 32767: -16384
  pub cosine_of_minus_5 : cosine (negsuc 4) ≡ pos 16384
  pub cosine_of_0 : cosine (pos 0) ≡ pos 16384
  pub cosine_of_64 : cosine (pos 64) ≡ pos 16383
  pub cosine_of_32767 : cosine (pos 32767) ≡ negsuc 16383
  -- LSPs 1000, 1100, 2000, 3000 up to 9000, minimum 256: the first two become 922, 1178, accepted
  pub stabilised-1000-1100 :
      stabilised (pos 256) (pos 1000 ∷ pos 1100 ∷ pos 2000 ∷ pos 3000 ∷ pos 4000 ∷ pos 5000 ∷ pos 6000 ∷ pos 7000 ∷ pos 8000 ∷ pos 9000 ∷ [])
      ≡ record {
        lsps = pos 922 ∷ pos 1178 ∷ pos 2000 ∷ pos 3000 ∷ pos 4000 ∷ pos 5000 ∷ pos 6000 ∷ pos 7000 ∷ pos 8000 ∷ pos 9000 ∷ [];
        outcome = Moved;
      }
  -- root of 15: 3; of 16: 4
  pub root_of_15 : root 15 ≡ 3
  pub root_of_16 : root 16 ≡ 4
  -- six pulses: code 0 gives slots 0..5; 118754 gives 0 and 25..29; 118755 gives 1..6; 593774 gives 24..29; 593775 none
  pub six_0 : positions Six 0 ≡ Some (bits (0 ∷ 1 ∷ 2 ∷ 3 ∷ 4 ∷ 5 ∷ []))
  pub six_118754 : positions Six 118754 ≡ Some (bits (0 ∷ 25 ∷ 26 ∷ 27 ∷ 28 ∷ 29 ∷ []))
  pub six_118755 : positions Six 118755 ≡ Some (bits (1 ∷ 2 ∷ 3 ∷ 4 ∷ 5 ∷ 6 ∷ []))
  pub six_593774 : positions Six 593774 ≡ Some (bits (24 ∷ 25 ∷ 26 ∷ 27 ∷ 28 ∷ 29 ∷ []))
  pub six_593775 : positions Six 593775 ≡ None
  -- five: 142505 gives 25..29
  pub five_142505 : positions Five 142505 ≡ Some (bits (25 ∷ 26 ∷ 27 ∷ 28 ∷ 29 ∷ []))
  -- gain index 0, grid 0, code 0, five pulses, no signs, train, lag 18: 2 at eighteen samples: 0..8, 18..26, 36..44 and 54..58, evens only
  pub train_18 : vector (record { count = Five; train = true; base_lag = 18; grid = false; code = 0; signs = 0; gain_index = 0 }) ≡
      pos 2 ∷ pos 0 ∷ pos 2 ∷ pos 0 ∷ pos 2 ∷ pos 0 ∷ pos 2 ∷ pos 0 ∷ pos 2 ∷ pos 0 ∷ pos 0 ∷ pos 0 ∷ pos 0 ∷ pos 0 ∷ pos 0 ∷ pos 0 ∷ pos 0 ∷ pos 0 ∷
      pos 2 ∷ pos 0 ∷ pos 2 ∷ pos 0 ∷ pos 2 ∷ pos 0 ∷ pos 2 ∷ pos 0 ∷ pos 2 ∷ pos 0 ∷ pos 0 ∷ pos 0 ∷ pos 0 ∷ pos 0 ∷ pos 0 ∷ pos 0 ∷ pos 0 ∷ pos 0 ∷
      pos 2 ∷ pos 0 ∷ pos 2 ∷ pos 0 ∷ pos 2 ∷ pos 0 ∷ pos 2 ∷ pos 0 ∷ pos 2 ∷ pos 0 ∷ pos 0 ∷ pos 0 ∷ pos 0 ∷ pos 0 ∷ pos 0 ∷ pos 0 ∷ pos 0 ∷ pos 0 ∷
      pos 2 ∷ pos 0 ∷ pos 2 ∷ pos 0 ∷ pos 2 ∷ pos 0 ∷ []
  -- gain 1 towards 0: 0; gain 0 towards 5: 0; gain 4096 towards 1048576: 69376
  pub gain_1_towards_0 : towards (pos 0) (pos 1) ≡ pos 0
  pub gain_0_towards_5 : towards (pos 5) (pos 0) ≡ pos 0
  pub gain_4096_towards_1048576 : towards (pos 1048576) (pos 4096) ≡ pos 69376
