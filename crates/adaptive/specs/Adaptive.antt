-- The adaptive part (document 01, "Adaptive part"; the Rust's acb_contribution; eq. 41), from a frame's signal as crate excitation has it.
use Rattle.std.specs.Prelude.{cond, List, ℕ, ◌+◌, ◌-◌, ◌/◌, ◌%◌, ltb, ℤ, pos, ◌+ℤ◌, ◌*ℤ◌}
use Rattle.integers.specs.Base.{floor_div, limited, sum_to, up, entry, tabulate}
use Rattle.tables.specs.Constants.{subframe_size, pitch_min, pitch_max, acb_taps, tap_one}

-- a lag limited to 18 ..= 142
abbrev pub limited_lag : ℤ → ℕ
limited_lag lag = up (limited (pos pitch_min) (pos pitch_max) lag)

-- what the taps read for the subframe at p and the lag l, from its sample m = 0 on: two older samples, and then the last l samples before p, again and again
abbrev pub delayed : List ℤ → ℕ → ℕ → ℕ → ℤ
delayed x p l m = entry x (p - cond (ltb m 2) (l + 2 - m) (l - (m - 2) % l))

-- sample n of the adaptive part: five taps in 16384ths, at delays l + 2 down to l - 2, rounded
abbrev pub adaptive_sample : List ℤ → ℕ → ℕ → List ℤ → ℕ → ℤ
adaptive_sample x p l taps n = floor_div (sum_to (λ j. entry taps j *ℤ delayed x p l (n + j)) acb_taps +ℤ pos (tap_one / 2)) tap_one

unfoldable pub adaptive : List ℤ → ℕ → ℕ → List ℤ → List ℤ
adaptive x p l taps = tabulate (adaptive_sample x p l taps) subframe_size
