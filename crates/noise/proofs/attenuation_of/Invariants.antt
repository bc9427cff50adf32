use Rattle.std.proofs.Common.{◌≡◌, pos}
use Rattle.noise.specs.Noise.{attenuation}
use Rattle.noise.proofs.attenuation_of.Given as goal

abbrev pub invariant-loop : goal.invariant-loop
invariant-loop l = l.a ≡ pos (attenuation l.counter)
