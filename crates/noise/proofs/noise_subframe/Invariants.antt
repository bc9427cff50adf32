use Rattle.std.proofs.Common.{◌≡◌, ◌+◌}
use Rattle.integers.specs.Base.{Fills}
use Rattle.basicop.specs.Operators.{mult16}
use Rattle.noise.specs.Noise.{word_after, noise}
use Rattle.noise.proofs.noise_subframe.Given as goal

abbrev pub invariant-loop-sample : goal.invariant-loop-sample
invariant-loop-sample l =
    (l.word ≡ word_after l.fn.start l.sample-index) × Fills (λ k. mult16 l.fn.gain (noise (word_after l.fn.start (k + 1)))) 60 l.sample-items l.sample-index
