-- What was refused leaves nothing in what follows: the samples and the last state of a sequence are those of its accepted records (document 01, demand 1; proofs/Refused.antt).
use Rattle.std.specs.Prelude.{◌≡◌, false, List, length}
use Rattle.state.specs.declared.State.{State}
use Rattle.decoder.specs.Decoder.{samples_of}
use Rattle.theorems.specs.Call.{Item, next, accepted, after, accepted_samples, accepted_only}

-- a refusal hands back the state that it was given, and changes no sample
abbrev pub RefusalKeeps : Type 0
RefusalKeeps =
    (s : State) (i : Item) → accepted s i ≡ false → (next s i ≡ s) × (samples_of s i.bytes i.samples ≡ i.samples)

-- over any sequence of records, samples and last state are those of the accepted ones alone, of which then none is refused
abbrev pub AcceptedAlone : Type 0
AcceptedAlone =
    (s : State) (items : List Item)
    → (accepted_samples s (accepted_only s items) ≡ accepted_samples s items)
    × (after s (accepted_only s items) ≡ after s items)
    × (length (accepted_samples s (accepted_only s items)) ≡ length (accepted_only s items))
