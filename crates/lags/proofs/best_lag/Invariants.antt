use Rattle.std.proofs.Common.{◌≡◌, ◌+◌, ◌*◌, ◌^◌, ◌≤◌, pos, IfSome}
use Rattle.lags.specs.Lags.{lag_energy}
use Rattle.lags.specs.Search.{Leads, Small}
use Rattle.lags.proofs.best_lag.Given as goal

-- the best of the k lags so far, and the energy of the next lag's samples
abbrev pub invariant-loop-k : goal.invariant-loop-k
invariant-loop-k l = record {
  energy : pos l.d ≡ lag_energy l.x l.to l.p (l.lo + l.k);
  energy_bound : l.d ≤ (60 + l.k) * 2 ^ 30;
  leads : Leads l.x l.to l.p l.lo l.k l.best;
  small : IfSome l.best Small;
}
