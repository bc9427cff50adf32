-- Records that give their candidate LSPs by an index (document 02, E1; proofs/Index.antt).
use Rattle.std.specs.Prelude.{Ok, ◌≡◌, Bool, List, [], ◌∷◌, ◌++◌, ℕ, ◌/◌, ◌%◌, ◌<◌, ℤ, ◌+ℤ◌}
use Rattle.integers.specs.Base.{entry, tabulate}
use Rattle.tables.specs.Constants.{lpc_order, codebook_rows, band0_place, band1_place, band2_place}
use Rattle.tables.specs.Tables.{mean_lsps}
use Rattle.codebooks.specs.Codebooks.{rows}
use Rattle.lsp.specs.Lsps.{decoded}
use Rattle.digits.specs.Digits.{image}
use Rattle.excitation.specs.declared.Rate.{Rate}
use Rattle.reader.specs.Fields.{byte}
use Rattle.layout.specs.Layout.{fields_of}
use Rattle.layout.specs.declared.LspForm.TheVariants.{Values, Index}
use Rattle.refusals.specs.Refusals.{kind_of}
use Rattle.refusals.specs.declared.Frame.TheVariants.{Received}
use Rattle.state.specs.State.{fresh_state}
use Rattle.state.specs.declared.State.{State}
use Rattle.decoder.specs.Frame.{candidates_of}
use Rattle.decoder.specs.Decoder.{examined, answer_of, first_number, samples_of}
use Rattle.theorems.specs.Call.{Item, next}

-- ---- from mean LSPs

-- the candidates are the mean and the rows' entries, plainly: no sum saturates
abbrev pub PlainFromMean : Type 0
PlainFromMean =
    (row0 row1 row2 : ℕ) → row0 < codebook_rows → row1 < codebook_rows → row2 < codebook_rows
    → decoded row0 row1 row2 mean_lsps ≡ tabulate (λ i. entry mean_lsps i +ℤ entry (rows row0 row1 row2) i) lpc_order

-- a record's index is 0
pub record HasIndexZero (r : List ℕ) : Type 0 where
  pub row0 : byte r band0_place ≡ 0
  pub row1 : byte r band1_place ≡ 0
  pub row2 : byte r band2_place ≡ 0

-- from a fresh state index 0 yields the mean LSPs: as candidates, and, where the record is accepted, as the LSPs that are stored after the frame
pub record IndexZero : Type 0 where
  pub candidates : (on : Bool) (r : List ℕ) → HasIndexZero r → candidates_of Index r (fresh_state on).prev_lsp ≡ mean_lsps
  pub stored :
      (on : Bool) (rate : Rate) (i : Item) → HasIndexZero i.bytes → examined (fresh_state on) i.bytes i.samples ≡ Ok (Received rate Index)
      → (next (fresh_state on) i).prev_lsp ≡ mean_lsps

-- ---- kind 3 is kind 1, and kind 4 is kind 2

-- 16-bit values in two bytes each, big-endian
unfoldable pub value_bytes : List ℤ → List ℕ
value_bytes [] = []
value_bytes (z ∷ zs) = image z / 256 ∷ image z % 256 ∷ value_bytes zs

-- the record of kind 1 or 2 with the candidates of r written out in place of its index
unfoldable pub written_out : State → Rate → List ℕ → List ℕ
written_out s rate r = kind_of rate Values ∷ (value_bytes (candidates_of Index r s.prev_lsp) ++ fields_of Index r)

-- any record of kind 3 or 4, refused ones too, is answered as that one: the same answer, number and samples, from any state and into any samples
abbrev pub IndexWritten : Type 0
IndexWritten =
    (s : State) (rate : Rate) (r : List ℕ) (x : List ℤ) → byte r 0 ≡ kind_of rate Index → let w = written_out s rate r in
    (answer_of s r x ≡ answer_of s w x) × (first_number s r x ≡ first_number s w x) × (samples_of s r x ≡ samples_of s w x)
