use Rattle.pulses.proofs.Repeats.{Repeating}
use Rattle.pulses.proofs.add_pulse.Given as goal

abbrev pub invariant-loop-j : goal.invariant-loop-j
invariant-loop-j l = Repeating l.initial.v l.amp l.p l.step l.v l.j
