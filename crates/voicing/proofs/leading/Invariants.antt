use Rattle.std.proofs.Common.{◌-◌}
use Rattle.voicing.specs.Search.{Weighs}
use Rattle.voicing.proofs.Leaders.{leader}
use Rattle.voicing.proofs.leading.Given as goal

-- the best of the k lags so far
abbrev pub invariant-loop-k : goal.invariant-loop-k
invariant-loop-k l = Weighs l.pcm_hist (leader l.pcm_hist l.centre (l.k - 1)) l.best
