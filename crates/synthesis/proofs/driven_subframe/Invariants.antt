use Rattle.std.proofs.Common.{◌+◌}
use Rattle.integers.specs.Base.{entry, Fills}
use Rattle.synthesis.specs.Synthesis.{driven}
use Rattle.synthesis.proofs.Memories.{Remembers}
use Rattle.synthesis.proofs.driven_subframe.Given as goal

abbrev pub invariant-loop-n : goal.invariant-loop-n
invariant-loop-n l =
    Fills (λ k. entry (driven l.a (entry l.x) l.initial.m (k + 1)) 0) 60 l.out l.n
    × Remembers (driven l.a (entry l.x) l.initial.m l.n) l.m
