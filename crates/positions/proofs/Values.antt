-- The starred values of document 01 on position codes, and others of document 02, E4, computed from the definitions.
use mathlib.Core.Path.{◌≡◌, refl}
use Rattle.std.specs.Prelude.{Some, None, Ok, Err}
use mathlib.Core.List.{[], ◌∷◌}
use Rattle.tables.specs.Rules.{choose}
use Rattle.positions.specs.Positions.{walk, bits, positions}
use Rattle.positions.specs.Packing.{ascending, rank, packed}
use Rattle.positions.specs.declared.Count.TheVariants.{Five, Six}
use Rattle.positions.specs.declared.PackingRefusal.TheVariants.{WrongCount, WrongSlot}

-- ---- what codes are read as: the bits of their slots

pub slots_of_six_0 : positions Six 0 ≡ Some (bits (0 ∷ 1 ∷ 2 ∷ 3 ∷ 4 ∷ 5 ∷ []))
unfolding walk choose bits positions
slots_of_six_0 = refl

pub slots_of_six_118754 : positions Six 118754 ≡ Some (bits (0 ∷ 25 ∷ 26 ∷ 27 ∷ 28 ∷ 29 ∷ []))
unfolding walk choose bits positions
slots_of_six_118754 = refl

pub slots_of_six_118755 : positions Six 118755 ≡ Some (bits (1 ∷ 2 ∷ 3 ∷ 4 ∷ 5 ∷ 6 ∷ []))
unfolding walk choose bits positions
slots_of_six_118755 = refl

pub slots_of_six_593774 : positions Six 593774 ≡ Some (bits (24 ∷ 25 ∷ 26 ∷ 27 ∷ 28 ∷ 29 ∷ []))
unfolding walk choose bits positions
slots_of_six_593774 = refl

pub slots_of_five_142505 : positions Five 142505 ≡ Some (bits (25 ∷ 26 ∷ 27 ∷ 28 ∷ 29 ∷ []))
unfolding walk choose bits positions
slots_of_five_142505 = refl

pub none_for_six_593775 : positions Six 593775 ≡ None
unfolding positions
none_for_six_593775 = refl

-- ---- bits, slot 0 on the right

pub bits_of_0_25_to_29 : bits (0 ∷ 25 ∷ 26 ∷ 27 ∷ 28 ∷ 29 ∷ []) ≡ 0b111110000000000000000000000001
unfolding bits
bits_of_0_25_to_29 = refl

-- ---- what slots are packed as

pub code_of_0_to_5 : packed (0 ∷ 1 ∷ 2 ∷ 3 ∷ 4 ∷ 5 ∷ []) ≡ Ok 0
unfolding choose ascending rank packed
code_of_0_to_5 = refl

pub code_of_0_to_4_and_29 : packed (0 ∷ 1 ∷ 2 ∷ 3 ∷ 4 ∷ 29 ∷ []) ≡ Ok 24
unfolding choose ascending rank packed
code_of_0_to_4_and_29 = refl

pub code_of_0_and_25_to_29 : packed (0 ∷ 25 ∷ 26 ∷ 27 ∷ 28 ∷ 29 ∷ []) ≡ Ok 118754
unfolding choose ascending rank packed
code_of_0_and_25_to_29 = refl

pub code_of_1_to_6 : packed (1 ∷ 2 ∷ 3 ∷ 4 ∷ 5 ∷ 6 ∷ []) ≡ Ok 118755
unfolding choose ascending rank packed
code_of_1_to_6 = refl

pub code_of_24_to_29 : packed (24 ∷ 25 ∷ 26 ∷ 27 ∷ 28 ∷ 29 ∷ []) ≡ Ok 593774
unfolding choose ascending rank packed
code_of_24_to_29 = refl

pub code_of_25_to_29 : packed (25 ∷ 26 ∷ 27 ∷ 28 ∷ 29 ∷ []) ≡ Ok 142505
unfolding choose ascending rank packed
code_of_25_to_29 = refl

-- ---- and turned away: by their count first

pub four_with_30 : packed (0 ∷ 1 ∷ 2 ∷ 30 ∷ []) ≡ Err WrongCount
unfolding choose ascending rank packed
four_with_30 = refl

pub seven : packed (0 ∷ 1 ∷ 2 ∷ 3 ∷ 4 ∷ 5 ∷ 6 ∷ []) ≡ Err WrongCount
unfolding choose ascending rank packed
seven = refl

pub slot_30 : packed (0 ∷ 1 ∷ 2 ∷ 3 ∷ 30 ∷ []) ≡ Err WrongSlot
unfolding choose ascending rank packed
slot_30 = refl

pub equal_slots : packed (0 ∷ 1 ∷ 2 ∷ 3 ∷ 4 ∷ 4 ∷ []) ≡ Err WrongSlot
unfolding choose ascending rank packed
equal_slots = refl

pub descending_slots : packed (1 ∷ 0 ∷ 2 ∷ 3 ∷ 4 ∷ []) ≡ Err WrongSlot
unfolding choose ascending rank packed
descending_slots = refl
