use Rattle.std.proofs.Common.{◌≡◌, ◌*◌, ◌^◌}
use Rattle.integers.specs.Base.{Within, entry, sum_to}
use Rattle.excitation.proofs.tap_sum.Given as goal

abbrev pub invariant-loop-tap : goal.invariant-loop-tap
invariant-loop-tap l = (l.sum ≡ sum_to (entry l.fn.taps) l.tap-index) × Within (l.tap-index * 2 ^ 15) l.sum
