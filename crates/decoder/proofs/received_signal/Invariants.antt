use Rattle.std.proofs.Common.{◌≡◌}
use Rattle.excitation.specs.declared.Subframe.{Subframe}
use Rattle.record.specs.declared.Block.{Block}
use Rattle.erasure.proofs.Frames.{turns}
use Rattle.decoder.specs.Frame.{each_subframe, received_to}
use Rattle.decoder.proofs.received_signal.Given as goal

abbrev pub invariant-loop-s : goal.invariant-loop-s
invariant-loop-s l =
    (b : Subframe → Block) → l.fn.blocks ≡ each_subframe b → l.signal ≡ turns (λ x k. received_to (b k) x k) l.fn.signal l.s-index
