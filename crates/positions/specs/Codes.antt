-- Every set of slots has one code (document 02, E4), which proofs/Codes.antt proves for both counts at once.
use Rattle.std.specs.Prelude.{◌≡◌, true, Some, Ok, List, ℕ, ◌<◌, length}
use Rattle.positions.specs.Positions.{pulses, limit, slots, bits, positions}
use Rattle.positions.specs.Packing.{ascending, packed}
use Rattle.positions.specs.declared.Count.{Count}

-- ps is a set of slots for the count: as many as there are pulses, each once, in ascending order, none above 29
pub record SlotsOf (n : Count) (ps : List ℕ) : Type 0 where
  pub many : length ps ≡ pulses n
  pub ascend : ascending 0 ps ≡ true

-- reading turns the code c into ps: it lies below the limit, and its slots are ps
pub record ReadAs (n : Count) (c : ℕ) (ps : List ℕ) : Type 0 where
  pub below : c < limit n
  pub read : slots n c ≡ ps

-- ps have one code
pub record HasOneCode (n : Count) (ps : List ℕ) : Type 0 where
  pub code : ℕ
  -- packing gives it
  pub packed_as : packed ps ≡ Ok code
  -- it lies below the limit, and reading turns it back into these slots
  pub read_as : ReadAs n code ps
  -- no other does so
  pub only : (c : ℕ) → ReadAs n c ps → c ≡ code

-- every set of slots has one code
abbrev pub OneCode : Type 0
OneCode = (n : Count) (ps : List ℕ) → SlotsOf n ps → HasOneCode n ps

-- what is packed is a set of slots for one of the counts
abbrev pub OnlySlots : Type 0
OnlySlots = (ps : List ℕ) (c : ℕ) → packed ps ≡ Ok c → (n : Count) × SlotsOf n ps

-- packing after reading returns any code below the limit: its slots are a set, which is packed as that code
abbrev pub PackedAfterReading : Type 0
PackedAfterReading = (n : Count) (c : ℕ) → c < limit n → SlotsOf n (slots n c) × (packed (slots n c) ≡ Ok c)

-- reading after packing: `fcbk_unpk_positions` answers the slots that `fcbk_pack_positions` was given, a bit for each
abbrev pub ReadAfterPacking : Type 0
ReadAfterPacking = (n : Count) (ps : List ℕ) (c : ℕ) → SlotsOf n ps → packed ps ≡ Ok c → positions n c ≡ Some (bits ps)
