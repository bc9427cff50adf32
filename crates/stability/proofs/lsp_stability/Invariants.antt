-- What n passes, which all moved some, have made of the LSPs.
use Rattle.stability.proofs.Turns.{Turn}
use Rattle.stability.proofs.lsp_stability.Given as goal

abbrev pub invariant-loop-n : goal.invariant-loop-n
invariant-loop-n l = Turn l.fn.minimum l.fn.p l.n l.lsps
