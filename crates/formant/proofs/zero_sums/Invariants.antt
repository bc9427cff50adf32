use Rattle.std.proofs.Common.{◌≡◌}
use Rattle.formant.proofs.Zeros.{sums}
use Rattle.formant.proofs.zero_sums.Given as goal

abbrev pub invariant-loop-j : goal.invariant-loop-j
invariant-loop-j l = l.sums ≡ sums l.w l.line l.j
