-- The starred values of document 01 on pulses, computed from the definitions.
use mathlib.Core.Path.{◌≡◌, refl}
use mathlib.Core.Bool.{true, false}
use mathlib.Core.List.{[], ◌∷◌}
use lib.IntN.{pos}
use Rattle.integers.specs.Base.{sum_to, tabulate}
use Rattle.tables.specs.Tables.{gains}
use Rattle.tables.specs.Rules.{choose}
use Rattle.positions.specs.Positions.{walk}
use Rattle.positions.specs.declared.Count.TheVariants.{Five}
use Rattle.pulses.specs.Pulses.{pulse_place, pulse, reaches, sample, vector}

-- ---- gain index 0, grid 0, code 0, five pulses, no signs, train, lag 18: 2 at eighteen samples, 0..8, 18..26, 36..44 and 54..58, evens only

pub train_18 : vector (record { count = Five; train = true; base_lag = 18; grid = false; code = 0; signs = 0; gain_index = 0 }) ≡
    pos 2 ∷ pos 0 ∷ pos 2 ∷ pos 0 ∷ pos 2 ∷ pos 0 ∷ pos 2 ∷ pos 0 ∷ pos 2 ∷ pos 0 ∷ pos 0 ∷ pos 0 ∷ pos 0 ∷ pos 0 ∷ pos 0 ∷ pos 0 ∷ pos 0 ∷ pos 0 ∷
    pos 2 ∷ pos 0 ∷ pos 2 ∷ pos 0 ∷ pos 2 ∷ pos 0 ∷ pos 2 ∷ pos 0 ∷ pos 2 ∷ pos 0 ∷ pos 0 ∷ pos 0 ∷ pos 0 ∷ pos 0 ∷ pos 0 ∷ pos 0 ∷ pos 0 ∷ pos 0 ∷
    pos 2 ∷ pos 0 ∷ pos 2 ∷ pos 0 ∷ pos 2 ∷ pos 0 ∷ pos 2 ∷ pos 0 ∷ pos 2 ∷ pos 0 ∷ pos 0 ∷ pos 0 ∷ pos 0 ∷ pos 0 ∷ pos 0 ∷ pos 0 ∷ pos 0 ∷ pos 0 ∷
    pos 2 ∷ pos 0 ∷ pos 2 ∷ pos 0 ∷ pos 2 ∷ pos 0 ∷ []
unfolding sum_to tabulate gains choose walk pulse_place pulse reaches sample vector
train_18 = refl
