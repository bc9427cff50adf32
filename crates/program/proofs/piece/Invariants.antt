use Rattle.std.proofs.Common.{◌≡◌, length}
use Rattle.lines.specs.Stream.{stream_after}
use Rattle.program.proofs.piece.Given as goal

abbrev pub invariant-loop-rest : goal.invariant-loop-rest
invariant-loop-rest l = stream_after l.fn.given l.fn.input ≡ stream_after l.stream l.rest

abbrev pub decreases-loop-rest : goal.decreases-loop-rest
decreases-loop-rest l = length l.rest
