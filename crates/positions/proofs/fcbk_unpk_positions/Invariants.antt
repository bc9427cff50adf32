use Rattle.positions.proofs.Bits.{Walking}
use Rattle.positions.proofs.fcbk_unpk_positions.Given as goal

abbrev pub invariant-loop-slot : goal.invariant-loop-slot
invariant-loop-slot l = Walking l.fn.n l.fn.code l.found l.wanted l.rest l.slot
