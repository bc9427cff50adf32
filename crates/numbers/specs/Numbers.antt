-- The ten numbers (document 01, "The ten numbers, tested in this order").
use Rattle.std.specs.Prelude.{List, codes, ℕ}
use Rattle.numbers.specs.declared.Refusal.{Refusal}
use Rattle.numbers.specs.declared.Refusal.TheVariants.{SampleLength, StateBounds, NoByte, Kind, Length, LagCode, StepCode, GainIndex, Flags, Signs}

-- the paper's numbers
abbrev pub number : Refusal → ℕ
number SampleLength = 1
number StateBounds = 2
number NoByte = 3
number Kind = 4
number Length = 5
number LagCode = 6
number StepCode = 7
number GainIndex = 8
number Flags = 9
number Signs = 10

-- what causes it, in a few words
abbrev pub cause : Refusal → List ℕ
cause SampleLength = codes "the samples lent are not 240"
cause StateBounds = codes "the state is out of bounds"
cause NoByte = codes "the record has no byte"
cause Kind = codes "the record's kind is not 0 to 4"
cause Length = codes "the record's length is not its kind's"
cause LagCode = codes "a base lag code is above 127"
cause StepCode = codes "a step code is above 3"
cause GainIndex = codes "a gain index is above 23"
cause Flags = codes "a flags byte is above 3, or a train is set at a base lag of 58 or more"
cause Signs = codes "a sign bit stands at or above the number of pulses"
