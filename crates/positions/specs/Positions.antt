-- Position codes (document 01, "Pulses"; the Rust's fcbk_unpk_positions, which names §2.17 of G.723.1): the slots of a code, and what it is read as.
use Rattle.std.specs.Prelude.{true, false, cond, Option, Some, None, List, [], ◌∷◌, ℕ, zero, suc, ◌+◌, ◌-◌, ◌^◌, ltb}
use Rattle.tables.specs.Constants.{grid_slots, pulses_odd, pulses_even, position_limit_five, position_limit_six}
use Rattle.tables.specs.Rules.{choose}
use Rattle.positions.specs.declared.Count.{Count}
use Rattle.positions.specs.declared.Count.TheVariants.{Five, Six}

-- how many pulses
abbrev pub pulses : Count → ℕ
pulses Five = pulses_odd
pulses Six = pulses_even

-- the first code without slots, 142506 for five and 593775 for six: as many codes as there are ways to choose the slots
abbrev pub limit : Count → ℕ
limit Five = position_limit_five
limit Six = position_limit_six

-- the slots that get a pulse, in ascending order, where s of the thirty slots are still to be walked, r pulses are still wanted and c is left of the code: the weight is the number of ways to choose r - 1 of the later slots; a code below it puts a pulse here, otherwise it is subtracted
unfoldable pub walk : ℕ → ℕ → ℕ → List ℕ
walk zero r c = []
walk (suc s) zero c = []
walk (suc s) (suc r) c = elim (ltb c (choose s r)) [ true ↦ (grid_slots - suc s) ∷ walk s r c | false ↦ walk s (suc r) (c - choose s r) ]

-- the slots of the code c
abbrev pub slots : Count → ℕ → List ℕ
slots n c = walk grid_slots (pulses n) c

-- slots as one number with a bit for each, that of slot 0 the lowest
unfoldable pub bits : List ℕ → ℕ
bits [] = 0
bits (p ∷ ps) = 2 ^ p + bits ps

-- what a code is read as: the bits of its slots, and none at the limit or above
unfoldable pub positions : Count → ℕ → Option ℕ
positions n c = cond (ltb c (limit n)) (Some (bits (slots n c))) None
