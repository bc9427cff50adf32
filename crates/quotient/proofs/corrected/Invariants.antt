-- Each turn takes one off an estimate that is too large.
use Rattle.std.proofs.Common.{◌+◌, ◌*◌, ◌^◌}
use Rattle.quotient.proofs.Estimates.{Estimate}
use Rattle.quotient.proofs.corrected.Given as goal

abbrev pub invariant-loop-d : goal.invariant-loop-d
invariant-loop-d l = Estimate (2 ^ 64) (l.fn.estimate.quotient * l.d.hi + l.fn.estimate.remainder) l.l l.d.hi l.d.lo l.q l.r

abbrev pub decreases-loop-d : goal.decreases-loop-d
decreases-loop-d l = l.q
