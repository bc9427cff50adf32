-- Records one after the other, of which the theorems speak.
use Rattle.std.specs.Prelude.{Bool, true, false, cond, Result, Ok, Err, List, [], ◌∷◌, ℕ, ℤ}
use Rattle.state.specs.declared.State.{State}
use Rattle.decoder.specs.Decoder.{answer_of, samples_of}
use Rattle.stability.specs.declared.Outcome.{Outcome}
use Rattle.numbers.specs.declared.Refusal.{Refusal}

-- a record's bytes, and the samples that the decoder is lent for it
pub record Item : Type 0 where
  pub bytes : List ℕ
  pub samples : List ℤ

-- the state after it
abbrev pub next : State → Item → State
next s i = (answer_of s i.bytes i.samples).state

abbrev pub is_accepted : Result Outcome Refusal → Bool
is_accepted (Ok o) = true
is_accepted (Err n) = false

-- whether it is accepted
abbrev pub accepted : State → Item → Bool
accepted s i = is_accepted (answer_of s i.bytes i.samples).verdict

-- ---- of a sequence: the last state

unfoldable pub after : State → List Item → State
after s [] = s
after s (i ∷ is) = after (next s i) is

-- its samples: 240 for each record that is accepted
unfoldable pub accepted_samples : State → List Item → List (List ℤ)
accepted_samples s [] = []
accepted_samples s (i ∷ is) =
    let rest = accepted_samples (next s i) is in cond (accepted s i) (samples_of s i.bytes i.samples ∷ rest) rest

-- the records that are accepted
unfoldable pub accepted_only : State → List Item → List Item
accepted_only s [] = []
accepted_only s (i ∷ is) = let rest = accepted_only (next s i) is in cond (accepted s i) (i ∷ rest) rest
