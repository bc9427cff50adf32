use Rattle.std.proofs.Common.{◌+◌}
use Rattle.integers.specs.Base.{entry, Fills, AllWithin}
use Rattle.pitch.specs.Pitch.{mixed_sample}
use Rattle.pitch.proofs.Mixed.new.Given as goal

abbrev pub invariant-loop-n : goal.invariant-loop-n
invariant-loop-n l = record {
  fills : Fills (λ n. mixed_sample l.w (entry l.x (l.p + n)) (entry l.x (l.q + n))) 60 l.samples l.n;
  small : AllWithin 40960 l.samples;
}
