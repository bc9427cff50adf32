use Rattle.std.proofs.Common.{◌≡◌, ◌*◌, ◌^◌, ◌≤◌, pos}
use Rattle.correlation.specs.Correlation.{energy}
use Rattle.pitch.proofs.Mixed.energy.Given as goal

-- the energy of the samples so far
abbrev pub invariant-loop-z : goal.invariant-loop-z
invariant-loop-z l = record { sum : pos l.e ≡ energy l.self.samples 0 l.z-index; bound : l.e ≤ l.z-index * 2 ^ 31 }
