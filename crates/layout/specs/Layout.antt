-- Where the fields of a record stand (document 01, "The record"; document 02, E1).
use Rattle.std.specs.Prelude.{List, ℕ, ◌+◌, ◌*◌, drop}
use Rattle.tables.specs.Constants.{head_values_bytes, head_index_bytes, lag_a_place, lag_b_place, blocks_place, block_high_bytes, block_low_bytes}
use Rattle.excitation.specs.declared.Subframe.{Subframe}
use Rattle.excitation.specs.declared.Subframe.TheVariants.{Zero, One, Two, Three}
use Rattle.excitation.specs.declared.Rate.{Rate}
use Rattle.excitation.specs.declared.Rate.TheVariants.{High, Low}
use Rattle.layout.specs.declared.LspForm.{LspForm}
use Rattle.layout.specs.declared.LspForm.TheVariants.{Values, Index}

-- the bytes of a record's head: its kind, and its LSPs or their index
abbrev pub head_bytes : LspForm → ℕ
head_bytes Values = head_values_bytes
head_bytes Index = head_index_bytes

-- the fields after the head; the places below count from their first byte
abbrev pub fields_of : LspForm → List ℕ → List ℕ
fields_of form r = drop (head_bytes form) r

-- the byte of a subframe's base lag code: code A serves subframes 0 and 1, code B 2 and 3
abbrev pub lag_place : Subframe → ℕ
lag_place Zero = lag_a_place
lag_place One = lag_a_place
lag_place Two = lag_b_place
lag_place Three = lag_b_place

-- the bytes of a block
abbrev pub block_size : Rate → ℕ
block_size High = block_high_bytes
block_size Low = block_low_bytes

-- a subframe, counted from 0
abbrev pub ordinal : Subframe → ℕ
ordinal Zero = 0
ordinal One = 1
ordinal Two = 2
ordinal Three = 3

-- the first byte of a subframe's block
abbrev pub block_place : Rate → Subframe → ℕ
block_place rate s = blocks_place + ordinal s * block_size rate
