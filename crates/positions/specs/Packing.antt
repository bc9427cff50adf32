-- Position codes written (document 02, E4; the Rust's fcbk_pack_positions, which names §2.15 of G.723.1): the code of slots, and which lists are turned away.
use Rattle.std.specs.Prelude.{Bool, true, cond, not, ◌&&◌, ◌||◌, Result, Ok, Err, List, [], ◌∷◌, codes, ℕ, zero, suc, ◌+◌, ◌-◌, leb, ltb, eqb, length}
use Rattle.tables.specs.Constants.{grid_slots, pulses_odd, pulses_even}
use Rattle.tables.specs.Rules.{choose}
use Rattle.positions.specs.declared.PackingRefusal.{PackingRefusal}
use Rattle.positions.specs.declared.PackingRefusal.TheVariants.{WrongCount, WrongSlot}

-- whether p may follow slots below lo: it is none of them, and not above 29
abbrev pub follows : ℕ → ℕ → Bool
follows lo p = leb lo p && ltb p grid_slots

-- whether slots ascend from lo on: each is greater than the one before, and none is above 29
unfoldable pub ascending : ℕ → List ℕ → Bool
ascending lo [] = true
ascending lo (p ∷ ps) = follows lo p && ascending (suc p) ps

-- the code of ascending slots, where s of the thirty are still to be passed: with r pulses still to come, a slot without one adds its weight, the number of ways to choose r - 1 of the later slots; after the last pulse nothing is added
unfoldable pub rank : ℕ → List ℕ → ℕ
rank zero ps = 0
rank (suc s) [] = 0
rank (suc s) (p ∷ ps) = cond (eqb p (grid_slots - suc s)) (rank s ps) (choose s (length ps) + rank s (p ∷ ps))

-- ---- which lists are turned away: those of neither five nor six slots, then those with a slot above 29 or not greater than the one before

-- whether n is a count of pulses
abbrev pub five_or_six : ℕ → Bool
five_or_six n = eqb n pulses_odd || eqb n pulses_even

-- what `fcbk_pack_positions` answers
unfoldable pub packed : List ℕ → Result ℕ PackingRefusal
packed ps = cond (not (five_or_six (length ps))) (Err WrongCount) (cond (not (ascending 0 ps)) (Err WrongSlot) (Ok (rank grid_slots ps)))

-- ---- the numbers of document 02

abbrev pub packing_number : PackingRefusal → ℕ
packing_number WrongCount = 12
packing_number WrongSlot = 13

-- 0 for a code
abbrev pub number_of_packed : Result ℕ PackingRefusal → ℕ
number_of_packed (Ok c) = 0
number_of_packed (Err n) = packing_number n

-- the first that applies to a list of slots: the tests of `packed` in the request's numbers
unfoldable pub first_packing_number : List ℕ → ℕ
first_packing_number ps = cond (not (five_or_six (length ps))) 12 (cond (not (ascending 0 ps)) 13 0)

-- what causes it, in a few words
abbrev pub packing_cause : PackingRefusal → List ℕ
packing_cause WrongCount = codes "the slots are neither five nor six"
packing_cause WrongSlot = codes "a slot is above 29, or not greater than the one before"
