use Rattle.std.proofs.Common.{◌≡◌, ◌*ℤ◌}
use Rattle.integers.specs.Base.{entry, sum_to}
use Rattle.synthesis.proofs.predicted.Given as goal

abbrev pub invariant-loop-j : goal.invariant-loop-j
invariant-loop-j l = l.acc ≡ sum_to (λ i. entry l.a i *ℤ entry l.mem i) l.j
