-- When a pulse description is accepted, and the theorem on equal vectors (demand 3; document 01, "Pulses"; document 02, E4), which proofs/EqualVectors.antt proves.
use Rattle.std.specs.Prelude.{◌≡◌, true, ◌↔◌, List, ℕ, ◌/◌, ◌%◌, ◌^◌, ◌≤◌, ◌<◌}
use Rattle.integers.specs.Base.{entry}
use Rattle.tables.specs.Constants.{subframe_size, pitch_min, train_lag_limit, gain_index_max}
use Rattle.positions.specs.Positions.{pulses, limit, slots}
use Rattle.positions.specs.Codes.{SlotsOf}
use Rattle.pulses.specs.Pulses.{vector}
use Rattle.pulses.specs.declared.Description.{Description}

-- accepted: the gain index is 0 to 23, no sign bit is set at the count or above and, with the flag set, the base lag is 18 to 57; that flag and grid are 0 or 1 is in their type
pub record Accepted (d : Description) : Type 0 where
  pub gain_index : d.gain_index ≤ gain_index_max
  pub signs : d.signs < 2 ^ pulses d.count
  pub base_lag : d.train ≡ true → (pitch_min ≤ d.base_lag) × (d.base_lag < train_lag_limit)

-- accepted, with a code below the limit
pub record WithSlots (d : Description) : Type 0 where
  pub accepted : Accepted d
  pub below : d.code < limit d.count

-- equal count, flag and, with the flag set, base lag
pub record SameGiven (d e : Description) : Type 0 where
  pub count : d.count ≡ e.count
  pub train : d.train ≡ e.train
  pub base_lag : d.train ≡ true → d.base_lag ≡ e.base_lag

-- equal grid, code, signs and gain index; equal signs are equal sign bytes, since those of accepted descriptions have no other bits (`same-signs`, below)
pub record SameRest (d e : Description) : Type 0 where
  pub grid : d.grid ≡ e.grid
  pub code : d.code ≡ e.code
  pub signs : d.signs ≡ e.signs
  pub gain_index : d.gain_index ≡ e.gain_index

-- the sign bits of an accepted description of n pulses are bits 0 to n - 1 of its sign byte: two such have equal sign bits exactly when they have equal sign bytes
abbrev pub SameSigns : Type 0
SameSigns =
    (d e : Description) → Accepted d → Accepted e → d.count ≡ e.count
    → ((b : ℕ) → b < pulses d.count → d.signs / 2 ^ b % 2 ≡ e.signs / 2 ^ b % 2) ↔ (d.signs ≡ e.signs)

-- two accepted descriptions with codes below the limit, of equal count, flag and, with the flag set, base lag, have equal values at all sixty samples exactly when grid, code, signs and gain index are equal (`equal_vectors`)
abbrev pub EqualVectors : Type 0
EqualVectors =
    (d e : Description) → WithSlots d → WithSlots e → SameGiven d e
    → ((j : ℕ) → j < subframe_size → entry (vector d) j ≡ entry (vector e) j) ↔ SameRest d e

-- d with another code
abbrev pub with_code : ℕ → Description → Description
with_code c d = record { count = d.count; train = d.train; base_lag = d.base_lag; grid = d.grid; code = c; signs = d.signs; gain_index = d.gain_index }

-- each set of slots is reached: with every accepted flag, lag, grid, signs and gain index, by a code below the limit, whose slots they are
abbrev pub SlotsReached : Type 0
SlotsReached =
    (d : Description) → Accepted d → (ps : List ℕ) → SlotsOf d.count ps
    → (c : ℕ) × WithSlots (with_code c d) × (slots d.count c ≡ ps)

-- what is said about equal vectors: when they are equal, and that each set of slots is reached (`vectors`)
pub record Vectors : Type 0 where
  pub equal : EqualVectors
  pub reached : SlotsReached

-- of accepted descriptions with codes below the limit, with one count, flag and lag, no two have one vector, so that at most one has a given vector (`at_most_one`); all codes from the limit on have the vector of zeros
abbrev pub AtMostOne : Type 0
AtMostOne =
    (d e : Description) → WithSlots d → WithSlots e
    → d.count ≡ e.count → d.train ≡ e.train → d.base_lag ≡ e.base_lag → vector d ≡ vector e → d ≡ e
