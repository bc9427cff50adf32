use Rattle.std.proofs.Common.{◌+◌, ◌%◌}
use Rattle.integers.specs.Base.{Fills, entry}
use Rattle.basicop.specs.Operators.{mult16}
use Rattle.erasure.proofs.replayed_subframe.Given as goal

abbrev pub invariant-loop-n : goal.invariant-loop-n
invariant-loop-n l = Fills (λ k. mult16 (entry l.signal (l.from + k % l.l)) l.fn.gain) 60 l.out l.n
