use Rattle.isqrt.proofs.Digits.{Partial}
use Rattle.isqrt.proofs.isqrt64.Given as goal

abbrev pub invariant-loop-bit : goal.invariant-loop-bit
invariant-loop-bit l = Partial l.v l.x l.r l.bit

abbrev pub decreases-loop-bit : goal.decreases-loop-bit
decreases-loop-bit l = l.bit
