-- The pulse descriptions of an accepted High record are accepted ones, and the fixed vector that the decoder adds in a subframe is that of its description: so the theorem on equal vectors (demand 3) speaks of the vectors that the decoder makes (document 01, "Pulses"; proofs/Descriptions.antt).
use Rattle.std.specs.Prelude.{Ok, ◌≡◌, List, ℕ}
use Rattle.pulses.specs.Pulses.{vector}
use Rattle.vectors.specs.Vectors.{Accepted}
use Rattle.excitation.specs.declared.Subframe.{Subframe}
use Rattle.excitation.specs.declared.Rate.TheVariants.{High}
use Rattle.layout.specs.Layout.{fields_of}
use Rattle.layout.specs.declared.LspForm.{LspForm}
use Rattle.record.specs.Record.{description, block_of}
use Rattle.refusals.specs.Refusals.{found}
use Rattle.refusals.specs.declared.Frame.TheVariants.{Received}

abbrev pub AcceptedDescriptions : Type 0
AcceptedDescriptions =
    (r : List ℕ) (form : LspForm) → found r ≡ Ok (Received High form) → (k : Subframe) → let d = description (fields_of form r) k in
    Accepted d × ((block_of High (fields_of form r) k).fixed ≡ vector d)
