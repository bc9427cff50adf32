use Rattle.std.proofs.Common.{◌≡◌, ◌∷◌}
use Rattle.integers.specs.Base.{entry, Fills}
use Rattle.postfilter.specs.Postfilter.{compensated_sample}
use Rattle.postfilter.proofs.compensated_subframe.Given as goal

abbrev pub invariant-loop-n : goal.invariant-loop-n
invariant-loop-n l =
    Fills (λ k. compensated_sample l.k1 (entry l.z k) (entry (l.prev ∷ l.z) k)) 60 l.out l.n × (l.before ≡ entry (l.prev ∷ l.z) l.n)
