use Rattle.std.proofs.Common.{◌+◌, ◌+ℤ◌, ◌*ℤ◌}
use Rattle.integers.specs.Base.{entry, Fills}
use Rattle.formant.proofs.tapped.Given as goal

abbrev pub invariant-loop-n : goal.invariant-loop-n
invariant-loop-n l = Fills (λ m. entry l.fn.sums m +ℤ l.fn.w *ℤ entry l.line (m + l.k)) 60 l.out l.n
