-- What holds of each codebook (document 02, E1): its size, and that any entry added to the mean of its own LSP stays in 16 bits. proofs/Rules.antt proves it, by one computed test that is used for each of the three.
use Rattle.std.specs.Prelude.{◌≡◌, List, ℕ, ◌+◌, ◌*◌, ◌%◌, ◌<◌, ℤ, ◌+ℤ◌, length}
use Rattle.std.specs.Int.{w16}
use Rattle.std.proofs.Common.{SFits}
use Rattle.integers.specs.Base.{entry}
use Rattle.tables.specs.Constants.{band0_size, band1_size, band2_size, codebook_rows}
use Rattle.tables.specs.Tables.{mean_lsps}
use Rattle.codebooks.specs.Codebooks.{band0, band1, band2}

-- an entry at place k of a table for the n LSPs from p on, and the mean of its own LSP
abbrev pub with_mean : ℕ → ℕ → ℕ → ℤ → ℤ
with_mean p n k x = entry mean_lsps (p + k % n) +ℤ x

-- how many entries a codebook for n LSPs has
abbrev pub entries_of : ℕ → ℕ
entries_of n = codebook_rows * n

pub record Codebook (p n : ℕ) (table : List ℤ) : Type 0 where
  pub size : length table ≡ entries_of n
  pub sums : (k : ℕ) → k < length table → SFits w16 (with_mean p n k (entry table k))

abbrev pub Band0Rule : Type 0
Band0Rule = Codebook 0 band0_size band0

abbrev pub Band1Rule : Type 0
Band1Rule = Codebook band0_size band1_size band1

abbrev pub Band2Rule : Type 0
Band2Rule = Codebook (band0_size + band1_size) band2_size band2
