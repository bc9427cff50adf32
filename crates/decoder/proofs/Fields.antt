-- What the bounds of a state tell of its fields.
use mathlib.Core.Path.{◌≡◌}
use mathlib.Core.Bool.{true}
use Prim.Native.Nat.{◌≤◌}
use lib.Dec.{T}
use lib.IntN.{nat_abs}
use lib.Signed.{non_neg}
use mir.Syntax.{w16}
use mir.Val.{SFits}
use Rattle.integers.specs.Base.{up}
use Rattle.integers.specs.Signed.{natural}
use Rattle.integers.specs.Linear.{line, line-abs, fits-between}
use Rattle.tables.specs.Constants.{last_base_lag_max, tap_sum_max, unvoiced_gain_max}
use Rattle.state.specs.State.{last_bounded, in_bounds}
use Rattle.state.specs.declared.State.{State}
use Rattle.state.proofs.Bounds.{AllLie, numbers_of}

-- ---- of a state in bounds, the numbers that an erased frame narrows

module _ (s : State) (h : in_bounds s ≡ true) where
  -- the lag of subframe 2, the tap sum and the unvoiced gain
  last : AllLie (last_bounded s.last_lag2 s.last_taps_sum_q15 s.last_gain_unvoiced)
  last = (numbers_of s h).1.1

  pub lag2-fits : SFits w16 s.last_lag2
  lag2-fits = fits-between last_base_lag_max s.last_lag2 (omega (line, last.0)) (omega (line, last.0)) tt

  pub taps-fits : SFits w16 s.last_taps_sum_q15
  taps-fits = fits-between tap_sum_max s.last_taps_sum_q15 (omega (line, last.1.0)) (omega (line, last.1.0)) tt

  pub gain-fits : SFits w16 s.last_gain_unvoiced
  gain-fits = fits-between unvoiced_gain_max s.last_gain_unvoiced (omega (line, last.1.1.0)) (omega (line, last.1.1.0)) tt

  -- the lag, as a cast to a byte has it
  pub lag2-natural : let z = s.last_lag2 in T (non_neg z) × (nat_abs z ≤ last_base_lag_max) × (nat_abs z ≡ up z)
  lag2-natural =
      let z = s.last_lag2 in
      let n = natural z (omega (line, last.0)) in
      (n.0, omega (line, last.0, n.2, line-abs z), n.2)
