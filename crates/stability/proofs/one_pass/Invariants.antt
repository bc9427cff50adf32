use Rattle.stability.proofs.Passes.{Passed}
use Rattle.stability.proofs.one_pass.Given as goal

abbrev pub invariant-loop-j : goal.invariant-loop-j
invariant-loop-j l = Passed l.fn.minimum l.fn.p l.j l.lsps l.moved
