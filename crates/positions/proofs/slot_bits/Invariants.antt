use Rattle.std.proofs.Common.{length}
use Rattle.positions.proofs.Packing.{Marking}
use Rattle.positions.proofs.slot_bits.Given as goal

abbrev pub invariant-loop-left : goal.invariant-loop-left
invariant-loop-left l = Marking l.fn.slots l.found l.least l.left

abbrev pub decreases-loop-left : goal.decreases-loop-left
decreases-loop-left l = length l.left
