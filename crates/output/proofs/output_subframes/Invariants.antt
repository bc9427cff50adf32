use Rattle.std.proofs.Common.{◌≡◌}
use Rattle.output.specs.Output.{filters_at}
use Rattle.output.proofs.Frames.{written}
use Rattle.output.proofs.output_subframes.Given as goal

abbrev pub invariant-loop-s : goal.invariant-loop-s
invariant-loop-s l =
    (l.samples ≡ written l.on l.sets l.inputs l.initial.g l.initial.samples l.s)
    × (l.g ≡ filters_at l.on l.sets l.inputs l.initial.g l.s)
