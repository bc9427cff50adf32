-- The lags that are stored of a received frame are in bounds where the record's codes are.
use mathlib.Core.List.{List}
use Prim.Native.Nat.{ℕ, ◌+◌, ◌≤◌}
use lib.IntN.{pos}
use lib.Signed.{◌≤ℤ◌}
use Rattle.integers.specs.Linear.{line, line-add, line-sub}
use Rattle.tables.specs.Constants.{pitch_min, last_base_lag_max, lag_b_place, step3_place, lag_code_max, step_code_max, step_code_zero}
use Rattle.excitation.specs.declared.Subframe.TheVariants.{Two, Three}
use Rattle.excitation.specs.declared.Rate.{Rate}
use Rattle.reader.specs.Fields.{byte}
use Rattle.record.specs.Record.{step, block_of}
use Rattle.state.specs.State.{last_lag_bounded}
use Rattle.state.proofs.Bounds.{Lies}

module _ (rate : Rate) (f : List ℕ) (h : byte f lag_b_place ≤ lag_code_max) where
  -- of subframe 3: the step code is 0 to 3, which add -1 to 2
  pub lag_bounds : byte f step3_place ≤ step_code_max → Lies (last_lag_bounded (block_of rate f Three).lag)
  unfolding block_of
  lag_bounds k =
      let base = pos (byte f lag_b_place + pitch_min) in
      let code = byte f step3_place in
      omega (line, line-add base (step code), line-sub (pos code) (pos step_code_zero))

  -- of subframe 2, which has no step
  pub lag2_bounds : (pos pitch_min ≤ℤ (block_of rate f Two).lag) × ((block_of rate f Two).lag ≤ℤ pos last_base_lag_max)
  unfolding block_of
  lag2_bounds = omega line
