-- The memory that a subframe leaves to a filter of order ten (document 01, "Synthesis" and "Formant, tilt, gain").
use Rattle.std.specs.Prelude.{List, ◌-◌, ℤ}
use Rattle.integers.specs.Base.{entry, tabulate}
use Rattle.tables.specs.Constants.{lpc_order, subframe_size}

-- its last ten samples, the most recent first
unfoldable pub last_ten : List ℤ → List ℤ
last_ten y = tabulate (λ j. entry y (subframe_size - 1 - j)) lpc_order
