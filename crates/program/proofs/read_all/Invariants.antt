use Rattle.program.proofs.Reached.{Reached}
use Rattle.program.proofs.read_all.Given as goal

abbrev pub invariant-loop : goal.invariant-loop
invariant-loop g l = Reached l.fn.given l.stream
