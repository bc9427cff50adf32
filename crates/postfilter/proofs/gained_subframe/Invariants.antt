use Rattle.std.proofs.Common.{◌≡◌, ◌+◌}
use Rattle.integers.specs.Base.{entry, Fills}
use Rattle.postfilter.specs.Postfilter.{gain_after, gained_sample}
use Rattle.postfilter.proofs.gained_subframe.Given as goal

abbrev pub invariant-loop-n : goal.invariant-loop-n
invariant-loop-n l =
    Fills (λ k. gained_sample (gain_after l.t l.gain (k + 1)) (entry l.z k)) 60 l.out l.n × (l.g ≡ gain_after l.t l.gain l.n)
