-- Bounds of lags.
use Prim.Native.Nat.{◌≤◌}
use lib.IntN.{ℤ}
use Rattle.integers.specs.Limit.{limited_bounds}
use Rattle.adaptive.specs.Adaptive.{limited_lag}
use Rattle.adaptive.proofs.Naturals.{up-between}

pub limited-lag_bounds : (z : ℤ) → (18 ≤ limited_lag z) × (limited_lag z ≤ 142)
limited-lag_bounds z = up-between 18 142 _ (limited_bounds _ _ z (record { le = tt }))
