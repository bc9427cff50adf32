-- The starred values, each computed in the crate of its definition.
use Rattle.isqrt.proofs.Values as isqrt
use Rattle.stability.proofs.Values as stability
use Rattle.lpc.proofs.Values as lpc
use Rattle.positions.proofs.Values as positions
use Rattle.pulses.proofs.Values as pulses
use Rattle.postfilter.proofs.Values as postfilter
use Rattle.theorems.specs.Values.{StarredValues}

pub starred_values : StarredValues
starred_values = record {
  cosine_of_minus_5 = lpc.cosine_of_minus_5;
  cosine_of_0 = lpc.cosine_of_0;
  cosine_of_64 = lpc.cosine_of_64;
  cosine_of_32767 = lpc.cosine_of_32767;
  stabilised-1000-1100 = stability.stabilised-1000-1100;
  root_of_15 = isqrt.root_of_15;
  root_of_16 = isqrt.root_of_16;
  six_0 = positions.slots_of_six_0;
  six_118754 = positions.slots_of_six_118754;
  six_118755 = positions.slots_of_six_118755;
  six_593774 = positions.slots_of_six_593774;
  six_593775 = positions.none_for_six_593775;
  five_142505 = positions.slots_of_five_142505;
  train_18 = pulses.train_18;
  gain_1_towards_0 = postfilter.towards_0_of_1;
  gain_0_towards_5 = postfilter.towards_5_of_0;
  gain_4096_towards_1048576 = postfilter.towards-most_of_one;
}
