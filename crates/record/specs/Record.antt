-- The fields of a record (document 01, "The record"). r is its bytes and f its fields after the head; past the end they read as 0.
use Rattle.std.specs.Prelude.{Bool, List, ℕ, ◌+◌, ◌*◌, ◌/◌, ◌%◌, eqb, ℤ, pos, ◌+ℤ◌, ◌-ℤ◌}
use Rattle.integers.specs.Base.{tabulate}
use Rattle.tables.specs.Constants.{lpc_order, subframe_size, acb_taps, pitch_min, step_code_zero}
use Rattle.tables.specs.Constants.{lsps_place, step1_place, step3_place, gain_index_place, flags_place, signs_place, code_place, values_place}
use Rattle.positions.specs.declared.Count.{Count}
use Rattle.positions.specs.declared.Count.TheVariants.{Five, Six}
use Rattle.pulses.specs.Pulses.{vector}
use Rattle.pulses.specs.declared.Description.{Description}
use Rattle.excitation.specs.declared.Subframe.{Subframe}
use Rattle.excitation.specs.declared.Subframe.TheVariants.{Zero, One, Two, Three}
use Rattle.excitation.specs.declared.Rate.{Rate}
use Rattle.excitation.specs.declared.Rate.TheVariants.{High, Low}
use Rattle.reader.specs.Fields.{byte, word, code}
use Rattle.layout.specs.Layout.{lag_place, block_place}
use Rattle.record.specs.declared.Block.{Block}

-- ---- values

-- n 16-bit values from byte i on
abbrev pub words : List ℕ → ℕ → ℕ → List ℤ
words b i n = tabulate (λ k. word b (i + 2 * k)) n

-- ---- candidates and lags

-- bytes 1 to 20 of a record with values: ten candidate LSPs
abbrev pub candidates : List ℕ → List ℤ
candidates r = words r lsps_place lpc_order

abbrev pub base_lag_of : List ℕ → Subframe → ℕ
base_lag_of f s = byte f (lag_place s) + pitch_min

-- what a step code adds: codes 0, 1, 2, 3 add -1, 0, 1, 2
abbrev pub step : ℕ → ℤ
step code = pos code -ℤ pos step_code_zero

-- a subframe's own lag: the base lag, and in odd subframes a step
abbrev pub lag : List ℕ → Subframe → ℤ
lag f Zero = pos (base_lag_of f Zero)
lag f One = pos (base_lag_of f One) +ℤ step (byte f step1_place)
lag f Two = pos (base_lag_of f Two)
lag f Three = pos (base_lag_of f Three) +ℤ step (byte f step3_place)

-- ---- blocks

-- both rates: five taps and a gain index
abbrev pub taps : Rate → List ℕ → Subframe → List ℤ
taps rate f s = words f (block_place rate s) acb_taps

abbrev pub gain_index_of : Rate → List ℕ → Subframe → ℕ
gain_index_of rate f s = byte f (block_place rate s + gain_index_place)

-- High: a flags byte with the grid as bit 0 and the train as bit 1, a sign byte and a 24-bit position code
abbrev pub flags : List ℕ → Subframe → ℕ
flags f s = byte f (block_place High s + flags_place)

abbrev pub grid : List ℕ → Subframe → Bool
grid f s = eqb (flags f s % 2) 1

abbrev pub train : List ℕ → Subframe → Bool
train f s = eqb (flags f s / 2 % 2) 1

abbrev pub signs : List ℕ → Subframe → ℕ
signs f s = byte f (block_place High s + signs_place)

abbrev pub position_code : List ℕ → Subframe → ℕ
position_code f s = code f (block_place High s + code_place)

-- six pulses in even subframes, five in odd ones
abbrev pub count : Subframe → Count
count Zero = Six
count One = Five
count Two = Six
count Three = Five

abbrev pub description : List ℕ → Subframe → Description
description f s = record {
  count = count s;
  train = train f s;
  base_lag = base_lag_of f s;
  grid = grid f s;
  code = position_code f s;
  signs = signs f s;
  gain_index = gain_index_of High f s;
}

-- the fixed vector: that of the pulse description, or sixty values
abbrev pub fixed : Rate → List ℕ → Subframe → List ℤ
fixed High f s = vector (description f s)
fixed Low f s = words f (block_place Low s + values_place) subframe_size

-- what the decoder reads of a subframe
unfoldable pub block_of : Rate → List ℕ → Subframe → Block
block_of rate f s = record {
  base_lag = pos (base_lag_of f s);
  lag = lag f s;
  taps = taps rate f s;
  gain_index = gain_index_of rate f s;
  fixed = fixed rate f s;
}
