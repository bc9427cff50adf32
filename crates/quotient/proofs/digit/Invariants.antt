-- Each turn takes one off an estimate that is too large.
use Rattle.std.proofs.Common.{◌^◌}
use Rattle.quotient.proofs.Estimates.{Estimate}
use Rattle.quotient.proofs.digit.Given as goal

abbrev pub invariant-loop-q : goal.invariant-loop-q
invariant-loop-q l = Estimate (2 ^ 32) l.u l.l l.v1 l.v0 l.q l.r

abbrev pub decreases-loop-q : goal.decreases-loop-q
decreases-loop-q l = l.q
