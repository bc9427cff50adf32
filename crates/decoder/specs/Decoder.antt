-- The decoder (document 01, "The ten numbers" and "Frame"; document 02, E2): what it answers to a record, and what the samples that it was lent then hold, from any state, any bytes and any samples.
use Rattle.std.specs.Prelude.{Result, Ok, Err, cond, not, List, ℕ, eqb, ℤ, length}
use Rattle.tables.specs.Constants.{frame_size}
use Rattle.layout.specs.Layout.{fields_of}
use Rattle.refusals.specs.Refusals.{found, number_found}
use Rattle.numbers.specs.declared.Refusal.{Refusal}
use Rattle.numbers.specs.declared.Refusal.TheVariants.{SampleLength, StateBounds}
use Rattle.refusals.specs.declared.Frame.{Frame}
use Rattle.refusals.specs.declared.Frame.TheVariants.{Erased, Received}
use Rattle.stability.specs.declared.Outcome.{Outcome}
use Rattle.state.specs.State.{in_bounds}
use Rattle.state.specs.declared.State.{State}
use Rattle.decoder.specs.Frame.{candidates_of, erased_checked, erased_samples, erased_state, received_checked, received_samples, received_state}
use Rattle.decoder.specs.declared.Answer.{Answer}

-- ---- the first number that applies, or what the record is

-- 1: the sample slice is not 240 long; 2: the state is out of bounds; then those of the record
unfoldable pub examined : State → List ℕ → List ℤ → Result Frame Refusal
examined s r samples =
    cond (not (eqb (length samples) frame_size)) (Err SampleLength) (cond (not (in_bounds s)) (Err StateBounds) (found r))

-- ---- what follows from it

-- a refusal hands back the state that was given
abbrev pub refusal : State → Refusal → Answer
refusal s n = record { verdict = Err n; state = s }

-- an acceptance says what was done to the candidate LSPs (document 02, E2)
abbrev pub acceptance : Outcome → State → Answer
acceptance outcome next = record { verdict = Ok outcome; state = next }

-- the answer
unfoldable pub answer_to : Result Frame Refusal → State → List ℕ → Answer
answer_to (Err n) s r = refusal s n
answer_to (Ok Erased) s r = acceptance (erased_checked s).outcome (erased_state s)
answer_to (Ok (Received rate form)) s r =
    let candidates = candidates_of form r s.prev_lsp in
    acceptance (received_checked s candidates).outcome (received_state s rate (fields_of form r) candidates)

-- the samples: a refusal changes none
unfoldable pub samples_to : Result Frame Refusal → State → List ℕ → List ℤ → List ℤ
samples_to (Err n) s r samples = samples
samples_to (Ok Erased) s r samples = erased_samples s
samples_to (Ok (Received rate form)) s r samples = received_samples s rate (fields_of form r) (candidates_of form r s.prev_lsp)

-- ---- what `decode` promises: its answer, the number of its verdict, and the samples at exit

abbrev pub answer_of : State → List ℕ → List ℤ → Answer
answer_of s r samples = answer_to (examined s r samples) s r

abbrev pub first_number : State → List ℕ → List ℤ → ℕ
first_number s r samples = number_found (examined s r samples)

abbrev pub samples_of : State → List ℕ → List ℤ → List ℤ
samples_of s r samples = samples_to (examined s r samples) s r samples
