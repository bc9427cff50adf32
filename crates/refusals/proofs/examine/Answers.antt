use Rattle.std.proofs.Common.{rules, ◌≡◌, ℕ, ◌<◌, List, [], ◌∷◌, length, Some, None, Ok, Err, Result, cond, not, ltb, eqb, refl, sym, ap, ◌∙◌, eq-eqb, slice_get, arith}
use borrow.Author.Tests.{lt-ltb, ne_eqb}
use Rattle.integers.specs.Truth.{cond-here, cond_there}
use Rattle.tables.specs.Constants.{kind_max}
use Rattle.excitation.specs.declared.Rate.TheVariants.{High, Low}
use Rattle.layout.specs.Layout.{fields_of}
use Rattle.layout.specs.declared.LspForm.TheVariants.{Values, Index}
use Rattle.numbers.specs.declared.Refusal.{Refusal}
use Rattle.numbers.specs.declared.Refusal.TheVariants.{NoByte, Kind, Length}
use Rattle.refusals.specs.declared.Frame.{Frame}
use Rattle.refusals.specs.declared.Frame.TheVariants.{Erased, Received}
use Rattle.refusals.specs.Refusals.{record_bytes, found_received, found_of, found, number_found, IsKind}
use Rattle.refusals.proofs.examine.Goals as goal

none : (s : List ℕ) → None ≡ slice_get s 0 → Err NoByte ≡ found s
unfolding found
none [] e = refl
none (x ∷ xs) e = absurd (search rules)

-- numbers 4 and 5 of a record with this many bytes and a kind byte, and what follows
after : List ℕ → ℕ → ℕ → Result Frame Refusal
after s size kind = cond (ltb kind_max kind) (Err Kind) (cond (not (eqb (length s) size)) (Err Length) (found_of kind s))

some : (s : List ℕ) (kind : ℕ) → Some kind ≡ slice_get s 0 → after s (record_bytes kind) kind ≡ found s
unfolding found after
some [] kind e = absurd (search rules)
some (x ∷ xs) kind e =
    let k : kind ≡ x = search rules in
    ap (λ (n : ℕ). after (x ∷ xs) (record_bytes n) n) k ∙ cond_there _ refl (ne_eqb (length (x ∷ xs)) 0 (λ z. let b : ⊥ = omega arith in b)) refl

unknown : (s : List ℕ) (kind : ℕ) → Some kind ≡ slice_get s 0 → kind_max < kind → Err Kind ≡ found s
unfolding after
unknown s kind e h = cond-here _ _ refl (lt-ltb kind_max kind h) ∙ some s kind e

-- what is found of a frame
in_frame : Frame → List ℕ → Result Frame Refusal
in_frame Erased s = Ok Erased
in_frame (Received rate form) s = found_received rate form (fields_of form s)

-- of a record with the kind byte of a frame
module _ (s : List ℕ) (frame : Frame) (kind size : ℕ) (first : Some kind ≡ slice_get s 0) (is : IsKind (Ok frame) kind) (sized : size ≡ record_bytes kind) where
  known : cond (not (eqb (length s) size)) (Err Length) (in_frame frame s) ≡ found s
  unfolding after in_frame found_of
  known = by_kind frame is ∙ ap (λ (n : ℕ). after s n kind) sized ∙ some s kind first
    where
      by_kind : (f : Frame) → IsKind (Ok f) kind → cond (not (eqb (length s) size)) (Err Length) (in_frame f s) ≡ after s size kind
      by_kind Erased k = ap (after s size) (sym k)
      by_kind (Received High Values) k = ap (after s size) (sym k)
      by_kind (Received Low Values) k = ap (after s size) (sym k)
      by_kind (Received High Index) k = ap (after s size) (sym k)
      by_kind (Received Low Index) k = ap (after s size) (sym k)

  other_length : (length s ≡ size → ⊥) → Err Length ≡ found s
  other_length h = cond-here _ _ refl (ap not (ne_eqb (length s) size h)) ∙ known

  accepted : length s ≡ size → {y : Result Frame Refusal} → y ≡ in_frame frame s → y ≡ found s
  accepted h e = cond_there _ refl (ap not (eq-eqb (length s) size h)) e ∙ known

pub returns-in_default-clause-answer : goal.returns-in_default-clause-answer
returns-in_default-clause-answer c = none c.args.record.now (search rules)

pub returns-in_default-clause-number : goal.returns-in_default-clause-number
returns-in_default-clause-number c = ap number_found (returns-in_default-clause-answer c)

pub returns-in_err-frame-clause-answer : goal.returns-in_err-frame-clause-answer
returns-in_err-frame-clause-answer c =
    let e : c.from_residual.result ≡ Err Kind = search rules in
    e ∙ unknown c.args.record.now c.in-Some.field-0.now (search rules) c.in_err-frame.ensures.1

pub returns-in_err-frame-clause-number : goal.returns-in_err-frame-clause-number
returns-in_err-frame-clause-number c = ap number_found (returns-in_err-frame-clause-answer c)

pub returns-then-record-record_bytes-clause-answer : goal.returns-then-record-record_bytes-clause-answer
returns-then-record-record_bytes-clause-answer c =
    let k = c.in-Some.field-0.now in
    let f = c.in_ok-frame in
    other_length c.args.record.now f.frame k c.record_bytes.result (search rules) f.ensures (c.record_bytes.ensures k f.ensures) c.if-record-record_bytes.true

pub returns-then-record-record_bytes-clause-number : goal.returns-then-record-record_bytes-clause-number
returns-then-record-record_bytes-clause-number c = ap number_found (returns-then-record-record_bytes-clause-answer c)

pub returns-in-Erased-clause-answer : goal.returns-in-Erased-clause-answer
unfolding in_frame
returns-in-Erased-clause-answer c =
    let k = c.in-Some.field-0.now in
    let f = c.in_ok-frame in
    let e : Ok f.frame ≡ in_frame f.frame c.args.record.now = (λ i. Ok (c.in-Erased.is i)) ∙ ap (λ (x : Frame). in_frame x c.args.record.now) (sym c.in-Erased.is) in
    accepted c.args.record.now f.frame k c.record_bytes.result (search rules) f.ensures (c.record_bytes.ensures k f.ensures) c.if-record-record_bytes.false e

pub returns-in-Erased-clause-number : goal.returns-in-Erased-clause-number
returns-in-Erased-clause-number c = ap number_found (returns-in-Erased-clause-answer c)

pub returns-in-Received-clause-answer : goal.returns-in-Received-clause-answer
unfolding in_frame
returns-in-Received-clause-answer c =
    let k = c.in-Some.field-0.now in
    let f = c.in_ok-frame in
    let a = c.in-Received in
    let e : c.examine_received.result ≡ in_frame f.frame c.args.record.now =
    c.examine_received.ensures.answer ∙ ap (found_received a.rate a.form) c.fields.ensures ∙ ap (λ (x : Frame). in_frame x c.args.record.now) (sym a.is) in
    accepted c.args.record.now f.frame k c.record_bytes.result (search rules) f.ensures (c.record_bytes.ensures k f.ensures) c.if-record-record_bytes.false e

pub returns-in-Received-clause-number : goal.returns-in-Received-clause-number
returns-in-Received-clause-number c = ap number_found (returns-in-Received-clause-answer c)
