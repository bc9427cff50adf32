use Rattle.std.proofs.Common.{◌≡◌, ◌*◌}
use Rattle.noise.specs.Noise.{word_after}
use Rattle.erasure.specs.Erasure.{noise_to}
use Rattle.erasure.proofs.Frames.{turns}
use Rattle.erasure.proofs.noise_frame.Given as goal

abbrev pub invariant-loop-s : goal.invariant-loop-s
invariant-loop-s l =
    (l.signal ≡ turns (noise_to l.fn.gain l.fn.start) l.fn.signal l.s-index) × (l.word ≡ word_after l.fn.start (60 * l.s-index))
