-- Pulses (document 01, "Pulses"; the Rust's mpmlq_fixed_vector, which names §2.17 of G.723.1): the vector of a pulse description. Crate vectors has the theorem on equal vectors.
use Rattle.std.specs.Prelude.{Bool, cond, ◌&&◌, List, ℕ, ◌+◌, ◌-◌, ◌*◌, ◌/◌, ◌%◌, ◌^◌, max, leb, ltb, eqb, ℤ, pos, neg_ℤ, get_or}
use Rattle.integers.specs.Base.{sum_to, tabulate}
use Rattle.tables.specs.Constants.{subframe_size}
use Rattle.tables.specs.Tables.{gains}
use Rattle.positions.specs.Positions.{pulses, limit, slots}
use Rattle.pulses.specs.declared.Description.{Description}

-- A description is the code's struct: `count` of pulses, five or six; `train`, the flag; `base_lag`; `grid`, a bit; `code`, the position code; `signs`, the sign byte; and `gain_index`. Flag and grid are Bool, the others but the count any natural number.

-- the doubled gain of an index; 0 for an index above 23, where the Rust has none
abbrev pub doubled_gain : ℕ → ℕ
doubled_gain i = 2 * get_or gains i 0

-- the size of its pulses
abbrev pub size : Description → ℕ
size d = doubled_gain d.gain_index

-- the sample at which its k-th pulse stands, from 0: twice the slot, and the grid bit
unfoldable pub pulse_place : Description → ℕ → ℕ
pulse_place d k = 2 * get_or (slots d.count d.code) k 0 + cond d.grid 1 0

-- z, negated where bit b of the sign byte s is set
abbrev pub signed_by : ℤ → ℕ → ℕ → ℤ
signed_by z s b = cond (eqb (s / 2 ^ b % 2) 1) (neg_ℤ z) z

-- its k-th pulse: of n pulses, it has the sign bit n - 1 - k; bits from n on are not read
unfoldable pub pulse : Description → ℕ → ℤ
pulse d k = signed_by (pos (size d)) d.signs (pulses d.count - 1 - k)

-- whether j is p or a whole number of steps m after it
abbrev pub repeats : ℕ → ℕ → ℕ → Bool
repeats m p j = leb p j && eqb ((j - p) % m) 0

-- the step of its train: the base lag; a base lag of 0 counts as 1, as in the Rust
abbrev pub period : Description → ℕ
period d = max d.base_lag 1

-- whether a pulse that stands at p reaches sample j: at p and, with the flag set, one or more whole base lags later
unfoldable pub reaches : Description → ℕ → ℕ → Bool
reaches d p j = cond d.train (repeats (period d) p j) (eqb p j)

-- what its k-th pulse adds to sample j
abbrev pub term : Description → ℕ → ℕ → ℤ
term d j k = cond (reaches d (pulse_place d k) j) (pulse d k) (pos 0)

-- the value at sample j: the sum over all its pulses; 0 where the code has no slots
unfoldable pub sample : Description → ℕ → ℤ
sample d j = cond (ltb d.code (limit d.count)) (sum_to (term d j) (pulses d.count)) (pos 0)

-- all sixty: what mpmlq_fixed_vector promises to give
unfoldable pub vector : Description → List ℤ
vector d = tabulate (sample d) subframe_size
