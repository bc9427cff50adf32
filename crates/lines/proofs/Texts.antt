-- Answers in the arms of the code.
use mathlib.Core.Path.{◌≡◌, refl, ap, ◌∙◌}
use mathlib.Core.Bool.{Bool, true, false, cond}
use mathlib.Core.List.{List, []}
use Prim.Native.Nat.{ℕ}
use lib.Dec.{eqb, leb}
use lib.IntN.{ℤ}
use lib.ListN.{length, replicate}
use Rattle.std.specs.Prelude.{Result, Ok, Err, ◌&&◌}
use Rattle.array_bytes.specs.ArrayBytes.{ArrayBytes}
use Rattle.tables.specs.Constants.{numbers_counted, line_max}
use Rattle.numbers.specs.Numbers.{number}
use Rattle.numbers.specs.declared.Refusal.{Refusal}
use Rattle.numbers.specs.declared.Refusal.TheVariants.{SampleLength, StateBounds, NoByte, Kind, Length, LagCode, StepCode, GainIndex, Flags, Signs}
use Rattle.refusals.specs.Refusals.{number_found}
use Rattle.refusals.specs.declared.Frame.{Frame}
use Rattle.refusals.specs.declared.Frame.TheVariants.{Erased, Received}
use Rattle.digits.specs.Digits.{sample_line, has_pairs, bytes_of, read_as, pairs_of}
use Rattle.counts.specs.Counts.{counted}
use Rattle.decoder.specs.Decoder.{examined, answer_to, answer_of, samples_of}
use Rattle.decoder.specs.declared.Answer.{Answer}
use Rattle.state.specs.State.{fresh_state}
use Rattle.state.specs.declared.State.{State}
use Rattle.lines.specs.Replies.{lent_samples, refusal_line, number_for, state_for, text_for, is_record_line}
use Rattle.lines.specs.Stream.{text_of, is_begun, blank, fresh_stream, next_line, end_text, ended_of, finished}
use Rattle.lines.specs.Parts.{answer_number, answer_line, answered, reply_of, line_reply, progress_by}
use Rattle.lines.specs.declared.LineRefusal.{LineRefusal}
use Rattle.lines.specs.declared.Line.{Line}
use Rattle.lines.specs.declared.Stream.{Stream}
use Rattle.lines.specs.declared.Progress.{Progress}
use Rattle.lines.specs.declared.Reply.{Reply}

-- ---- the number and the text of an answer are those of the definition

number-some : (r : Refusal) → eqb (number r) 0 ≡ false
number-some SampleLength = refl
number-some StateBounds = refl
number-some NoByte = refl
number-some Kind = refl
number-some Length = refl
number-some LagCode = refl
number-some StepCode = refl
number-some GainIndex = refl
number-some Flags = refl
number-some Signs = refl

found-number : (f : Result Frame Refusal) (s : State) (bytes : List ℕ) (xs : List ℤ) → answer_number (answered (answer_to f s bytes).verdict xs) ≡ number_found f
unfolding answer_to
found-number (Err r) s bytes xs = refl
found-number (Ok Erased) s bytes xs = refl
found-number (Ok (Received rate form)) s bytes xs = refl

found-text : (f : Result Frame Refusal) (s : State) (bytes : List ℕ) (xs : List ℤ)
    → answer_line (answered (answer_to f s bytes).verdict xs) ≡ cond (eqb (number_found f) 0) (sample_line xs) (refusal_line (number_found f))
unfolding answer_to
found-text (Err r) s bytes xs = rw (number-some r)
found-text (Ok Erased) s bytes xs = refl
found-text (Ok (Received rate form)) s bytes xs = refl

pub reply-state : (b : Bool) (bytes : List ℕ) (s : State) → (reply_of b bytes s).state ≡ state_for b bytes s
unfolding reply_of
reply-state b bytes s = refl

pub reply-number : (b : Bool) (bytes : List ℕ) (s : State) → answer_number (reply_of b bytes s).answer ≡ number_for b bytes s
unfolding reply_of number_for
reply-number true bytes s = found-number (examined s bytes lent_samples) s bytes (samples_of s bytes lent_samples)
reply-number false bytes s = refl

pub reply-text : (b : Bool) (bytes : List ℕ) (s : State) → answer_line (reply_of b bytes s).answer ≡ text_for b bytes s
unfolding reply_of number_for text_for
reply-text true bytes s = found-text (examined s bytes lent_samples) s bytes (samples_of s bytes lent_samples)
reply-text false bytes s = refl

-- what is carried on after it
pub reply-progress : (ts : List ℕ) (b : Bool) (bytes : List ℕ) (s : State) (n : ℕ)
    → progress_by ts (reply_of b bytes s) n ≡ record { stream = record { state = state_for b bytes s; line = blank; tallies = counted ts (number_for b bytes s) }; text = text_of (text_for b bytes s); used = n }
reply-progress ts b bytes s n =
    λ i. record { stream = record { state = reply-state b bytes s i; line = blank; tallies = counted ts (reply-number b bytes s i) }; text = text_of (reply-text b bytes s i); used = n }

-- ---- a record, by what the decoder promises

pub decoded_is : (s : State) (bytes : List ℕ) (a : Answer) (xs : List ℤ) (r : Result (List ℤ) LineRefusal)
    → a ≡ answer_of s bytes lent_samples → xs ≡ samples_of s bytes lent_samples → r ≡ answered a.verdict xs → record { state = a.state; answer = r } ≡ reply_of true bytes s
unfolding reply_of state_for
decoded_is s bytes a xs r ea ex er = λ i. record { state = (ea i).state; answer = (er ∙ (λ k. answered (ea k).verdict (ex k))) i }

-- ---- a text as digit pairs

pairs : (short t : Bool) (bytes : List ℕ) (p : Result ArrayBytes ArrayBytes) → p ≡ cond short (read_as t bytes) (read_as false [])
    → elim p as (λ _. Type 0) [ Err v ↦ (short && t) ≡ false | Ok v ↦ ((short && t) ≡ true) × (v.items ≡ bytes) ]
pairs true true bytes (Err v) e = absurd (let z : ⊥ = cc in z)
pairs true true bytes (Ok v) e = (refl, cc)
pairs true false bytes (Err v) e = refl
pairs true false bytes (Ok v) e = absurd (let z : ⊥ = cc in z)
pairs false t bytes (Err v) e = refl
pairs false t bytes (Ok v) e = absurd (let z : ⊥ = cc in z)

pub pairs_some : (text : List ℕ) (v : ArrayBytes) → Ok v ≡ pairs_of text → (is_record_line text ≡ true) × (v.items ≡ bytes_of text)
unfolding pairs_of
pairs_some text v e = pairs (leb (length text) line_max) (has_pairs text) (bytes_of text) (Ok v) e

pub pairs_none : (text : List ℕ) (v : ArrayBytes) → Err v ≡ pairs_of text → is_record_line text ≡ false
unfolding pairs_of
pairs_none text v e = pairs (leb (length text) line_max) (has_pairs text) (bytes_of text) (Err v) e

-- ---- the end of a line

pub ended_is : (r : Stream) (a : Reply) (f : Progress) → a ≡ line_reply r.line r.state → f ≡ progress_by r.tallies a 0 → f ≡ ended_of r
unfolding ended_of next_line end_text
ended_is r a f e g = g ∙ ap (λ (b : Reply). progress_by r.tallies b 0) e ∙ reply-progress r.tallies _ _ r.state 0

-- ---- that of the input

pub finish_begun : (r : Stream) (f : Progress) → is_begun r.line ≡ true → f ≡ ended_of r → f ≡ finished r
unfolding finished
finish_begun r f h e = rw h e

pub finish_none : (r : Stream) (t : ArrayBytes) → is_begun r.line ≡ false → t.items ≡ [] → record { stream = r; text = t; used = 0 } ≡ finished r
unfolding finished
finish_none r t h e = rw h (λ i. record { stream = r; text = text_of (e i); used = 0 })

-- ---- before its start

pub fresh_is : (s : State) (l : Line) (ts : List ℕ) → s ≡ fresh_state true → l ≡ blank → ts ≡ replicate numbers_counted 0 → record { state = s; line = l; tallies = ts } ≡ fresh_stream
unfolding fresh_stream
fresh_is s l ts e h k = λ i. record { state = e i; line = h i; tallies = k i }
