use Rattle.std.proofs.Common.{◌/◌, ◌^◌}
use Rattle.pulses.proofs.Placing.{Placing}
use Rattle.pulses.proofs.add_pulses.Given as goal

abbrev pub invariant-loop-slot : goal.invariant-loop-slot
invariant-loop-slot l = Placing l.fn.d l.v (l.found / 2 ^ l.slot) l.left l.slot
