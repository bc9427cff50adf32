-- The closing lines come in ascending number, each number at most once (document 02, E3). proofs/Ascending.antt proves it.
use Rattle.std.specs.Prelude.{cond, List, ◌≡◌, ℕ, ◌<◌, get_or, length}
use Rattle.tables.specs.Constants.{numbers_counted}
use Rattle.counts.specs.Counts.{how_many, tally, count_lines, is_seen, closing}

-- every later number is greater
abbrev pub Ascending : List ℕ → Type 0
Ascending ns = (i k : ℕ) → i < k → k < length ns → get_or ns i 0 < get_or ns k 0

-- the text has the lines of numbers that ascend, each number that was seen once, and no other
abbrev pub AscendingLines : (ℕ → ℕ) → List ℕ → Type 0
AscendingLines count text =
    (numbers : List ℕ) × Ascending numbers × ((n : ℕ) → how_many n numbers ≡ cond (is_seen count n) 1 0) × (text ≡ count_lines count numbers)

-- the closing lines of twelve tallies are such a text
abbrev pub ClosingAscends : Type 0
ClosingAscends = (tallies : List ℕ) → length tallies ≡ numbers_counted → AscendingLines (tally tallies) (closing (tally tallies))
