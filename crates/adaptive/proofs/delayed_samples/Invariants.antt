use Rattle.integers.specs.Base.{Fills}
use Rattle.adaptive.specs.Adaptive.{delayed}
use Rattle.adaptive.proofs.delayed_samples.Given as goal

abbrev pub invariant-loop-m : goal.invariant-loop-m
invariant-loop-m l = Fills (delayed l.signal l.p l.l) 64 l.e l.m
