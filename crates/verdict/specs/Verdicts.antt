-- The number of a verdict (document 01, "The ten numbers, tested in this order"; document 02, E2).
use Rattle.std.specs.Prelude.{ℕ, Result, Ok, Err}
use Rattle.stability.specs.declared.Outcome.{Outcome}
use Rattle.numbers.specs.declared.Refusal.{Refusal}
use Rattle.numbers.specs.Numbers.{number}

-- 0 where the record was accepted, whatever was done to its LSPs
abbrev pub number_of : Result Outcome Refusal → ℕ
number_of (Ok o) = 0
number_of (Err n) = number n
