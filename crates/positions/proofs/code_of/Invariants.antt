use Rattle.positions.proofs.Packing.{Packing}
use Rattle.positions.proofs.code_of.Given as goal

abbrev pub invariant-loop-slot : goal.invariant-loop-slot
invariant-loop-slot l = Packing l.fn.slots l.code l.wanted l.rest l.slot
