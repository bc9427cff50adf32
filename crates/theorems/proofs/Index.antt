-- Candidates of an index: by the rules of the codebooks, and written out as the values of another record.
use Rattle.std.specs.Prelude.{Result, Ok, Err}
use mathlib.Core.Path.{◌≡◌, refl, sym, ap, ◌∙◌, subst}
use mathlib.Core.Bool.{Bool, true, false, cond, not}
use mathlib.Core.List.{List, [], ◌∷◌, ◌++◌}
use Prim.Native.Nat.{ℕ, ◌+◌, ◌-◌, ◌*◌, ◌/◌, ◌%◌, ◌≤◌, ◌<◌}
use native.Mathlib.Nat.{div-add-mod'}
use native.Mathlib.Omega.{arith}
use borrow.Author.Tests.{lt-ltb, le-ltb, eqb-true, eqb-false, eq-eqb, ne_eqb}
use lib.Arith.{digits_lt, digits_mod}
use lib.Dec.{eqb, lit≤}
use lib.IntN.{ℤ, pos, negsuc, ◌+ℤ◌, ◌-ℤ◌}
use lib.ListN.{length, length-drop}
use mir.Syntax.{w16}
use mir.Val.{SFits}
use Rattle.integers.specs.Base.{saturated, up, entry, tabulate}
use Rattle.integers.specs.Linear.{line, line-add, line-sub}
use Rattle.integers.specs.Saturation.{saturated-same, saturated-fits}
use Rattle.tables.specs.Constants.{kind_max, lsp_minimum, lsp_predictor, band0_size, band1_size, band2_size, codebook_rows}
use Rattle.tables.specs.Tables.{mean_lsps}
use Rattle.basicop.specs.Operators.{add16}
use Rattle.codebooks.specs.Codebooks.{band0, band1, band2}
use Rattle.codebooks.specs.Rules.{Codebook}
use Rattle.codebooks.proofs.Rules.{band0_rule, band1_rule, band2_rule}
use Rattle.lsp.specs.Lsps.{predicted, decoded_lsp, decoded}
use Rattle.digits.specs.Digits.{image}
use Rattle.stability.specs.Stability.{pass_to, any_to, passes, check_or_previous}
use Rattle.excitation.specs.declared.Rate.{Rate}
use Rattle.excitation.specs.declared.Rate.TheVariants.{High, Low}
use Rattle.reader.specs.Fields.{byte, twos_complement}
use Rattle.layout.specs.Layout.{fields_of}
use Rattle.layout.specs.declared.LspForm.{LspForm}
use Rattle.layout.specs.declared.LspForm.TheVariants.{Values, Index}
use Rattle.record.specs.Record.{candidates}
use Rattle.numbers.specs.declared.Refusal.{Refusal}
use Rattle.numbers.specs.declared.Refusal.TheVariants.{SampleLength, StateBounds, NoByte, Kind, Length, LagCode, StepCode, GainIndex, Flags, Signs}
use Rattle.refusals.specs.Refusals.{record_bytes, wrong_lag_code, wrong_step_code, wrong_gain_index, wrong_flags, wrong_signs}
use Rattle.refusals.specs.Refusals.{found_received, found_of, found, number_found, kind_of}
use Rattle.refusals.specs.declared.Frame.{Frame}
use Rattle.refusals.specs.declared.Frame.TheVariants.{Received}
use Rattle.state.specs.State.{fresh_state, in_bounds}
use Rattle.state.specs.declared.State.{State}
use Rattle.decoder.specs.Frame.{candidates_of, frame_state, received_checked, received_samples, received_state}
use Rattle.decoder.specs.Decoder.{examined, acceptance, answer_to, samples_to}
use Rattle.theorems.specs.Index.{PlainFromMean, HasIndexZero, IndexZero, value_bytes, written_out, IndexWritten}

-- ---- from mean LSPs

abbrev mean : ℕ → ℤ
mean i = entry mean_lsps i

-- LSP p + j of a band, which prediction leaves at its mean: its entry in a row is added plainly
band_sum : (p n : ℕ) {table : List ℤ} → Codebook p n table → (row j : ℕ) → row < codebook_rows → j < n →
    predicted (pos lsp_predictor) (mean (p + j)) (mean (p + j)) ≡ mean (p + j) →
    decoded_lsp (mean (p + j)) (mean (p + j)) (entry table (row * n + j)) ≡ mean (p + j) +ℤ entry table (row * n + j)
band_sum p n {table} b row j h k e =
    let q = row * n + j in
    let inside : q < length table = subst (λ (l : ℕ). q < l) (sym b.size) (digits_lt h k) in
    let own : SFits w16 (mean (p + j) +ℤ entry table q) = subst (λ (m : ℕ). SFits w16 (mean (p + m) +ℤ entry table q)) (digits_mod row k) (b.sums q inside) in
    ap (λ (z : ℤ). add16 z (entry table q)) e ∙ saturated-same 32767 own tt

pub plain_from-mean : PlainFromMean
unfolding tabulate saturated mean_lsps
plain_from-mean row0 row1 row2 h0 h1 h2 =
    let sum0 = band_sum 0 band0_size band0_rule row0 in
    let sum1 = band_sum band0_size band1_size band1_rule row1 in
    let sum2 = band_sum (band0_size + band1_size) band2_size band2_rule row2 in
    λ i.
    sum0 0 h0 (omega arith) refl i
    ∷ sum0 1 h0 (omega arith) refl i
    ∷ sum0 2 h0 (omega arith) refl i
    ∷ sum1 0 h1 (omega arith) refl i
    ∷ sum1 1 h1 (omega arith) refl i
    ∷ sum1 2 h1 (omega arith) refl i
    ∷ sum2 0 h2 (omega arith) refl i
    ∷ sum2 1 h2 (omega arith) refl i
    ∷ sum2 2 h2 (omega arith) refl i
    ∷ sum2 3 h2 (omega arith) refl i
    ∷ []

-- row 0 of each band is zeros
zero-rows : decoded 0 0 0 mean_lsps ≡ mean_lsps
unfolding tabulate mean_lsps band0 band1 band2
zero-rows = plain_from-mean 0 0 0 (omega arith) (omega arith) (omega arith)

-- the mean has its gaps
mean_stable : (check_or_previous (pos lsp_minimum) mean_lsps mean_lsps).lsps ≡ mean_lsps
unfolding passes pass_to any_to mean_lsps
mean_stable = refl

zero-candidates : (r : List ℕ) → HasIndexZero r → candidates_of Index r mean_lsps ≡ mean_lsps
zero-candidates r z = (λ i. decoded (z.row0 i) (z.row1 i) (z.row2 i) mean_lsps) ∙ zero-rows

pub index-zero : IndexZero
unfolding answer_to frame_state received_state fresh_state
index-zero = record {
  candidates = λ on r z. zero-candidates r z;
  stored = λ on rate i z e.
      ap (λ (f : Result Frame Refusal). (answer_to f (fresh_state on) i.bytes).state.prev_lsp) e
      ∙ ap (λ (l : List ℤ). (check_or_previous (pos lsp_minimum) l mean_lsps).lsps) (zero-candidates i.bytes z) ∙ mean_stable;
}

-- ---- values written and read again

image-read : (z : ℤ) → SFits w16 z → twos_complement (image z) ≡ z
image-read (pos n) f =
    let m : image (pos n) ≡ n = omega (arith, f.sfits) in
    ap twos_complement m ∙ ap (λ (b : Bool). cond b (pos n) (pos n -ℤ pos 65536)) (lt-ltb n 32768 f.sfits)
image-read (negsuc n) f =
    let k = 65535 - n in
    let sum : negsuc n +ℤ pos 65536 ≡ pos k = omega (line, line-add (negsuc n) (pos 65536), f.sfits) in
    let m : image (negsuc n) ≡ k = ap (λ (z : ℤ). up z % 65536) sum ∙ omega arith in
    ap twos_complement m ∙ ap (λ (b : Bool). cond b (pos k) (pos k -ℤ pos 65536)) (le-ltb k 32768 (omega (arith, f.sfits)))
    ∙ omega (line, line-sub (pos k) (pos 65536), f.sfits)

value_read : (z : ℤ) → SFits w16 z → twos_complement (image z / 256 * 256 + image z % 256) ≡ z
value_read z f = ap twos_complement (div-add-mod' (image z) 256) ∙ image-read z f

values-read : (f : ℕ → ℤ) → ((k : ℕ) → SFits w16 (f k)) → (kind : ℕ) (rest : List ℕ) →
    candidates (kind ∷ (value_bytes (tabulate f 10) ++ rest)) ≡ tabulate f 10
unfolding tabulate value_bytes
values-read f h kind rest =
    let read : (k : ℕ) → twos_complement (image (f k) / 256 * 256 + image (f k) % 256) ≡ f k = λ k. value_read (f k) (h k) in
    λ i. read 0 i ∷ read 1 i ∷ read 2 i ∷ read 3 i ∷ read 4 i ∷ read 5 i ∷ read 6 i ∷ read 7 i ∷ read 8 i ∷ read 9 i ∷ []

-- ---- what is found of a record by its kind

kind_known : (rate : Rate) (form : LspForm) → (0 < kind_of rate form) × (kind_of rate form ≤ kind_max)
kind_known High Values = (lit≤ tt, lit≤ tt)
kind_known Low Values = (lit≤ tt, lit≤ tt)
kind_known High Index = (lit≤ tt, lit≤ tt)
kind_known Low Index = (lit≤ tt, lit≤ tt)

found_of_lem : (rate : Rate) (form : LspForm) (r : List ℕ) → found_of (kind_of rate form) r ≡ found_received rate form (fields_of form r)
unfolding found_of
found_of_lem High Values r = refl
found_of_lem Low Values r = refl
found_of_lem High Index r = refl
found_of_lem Low Index r = refl

some_byte : (r : List ℕ) → 0 < byte r 0 → eqb (length r) 0 ≡ false
some_byte [] h = absurd (let z : ⊥ = omega arith in z)
some_byte (b ∷ r) h = ne_eqb (length (b ∷ r)) 0 (λ e. let z : ⊥ = omega (arith, e) in z)

-- numbers 3 and 4 do not apply; 5 to 10 follow
found-by_kind : (r : List ℕ) (rate : Rate) (form : LspForm) → byte r 0 ≡ kind_of rate form →
    found r ≡ cond (not (eqb (length r) (record_bytes (kind_of rate form)))) (Err Length) (found_received rate form (fields_of form r))
unfolding found
found-by_kind r rate form e =
    let k = kind_known rate form in
    let some = some_byte r (omega (arith, k.0, e)) in
    let known = le-ltb kind_max (byte r 0) (omega (arith, k.1, e)) in
    let sized : ℕ → Result Frame Refusal → Result Frame Refusal = λ n f. cond (not (eqb (length r) (record_bytes n))) (Err Length) f in
    (λ i. cond (some i) (Err NoByte) (cond (known i) (Err Kind) (sized (e i) (found_of (e i) r))))
    ∙ ap (sized (kind_of rate form)) (found_of_lem rate form r)

-- ---- a record of kind 3 or 4, and the one with its candidates written out

same_eqb : (a b c d : ℕ) → (a ≡ b → c ≡ d) → (c ≡ d → a ≡ b) → eqb a b ≡ eqb c d
same_eqb a b c d to from = by (eqb a b) refl
  where
    by : (t : Bool) → eqb a b ≡ t → t ≡ eqb c d
    by true e = sym (eq-eqb c d (to (eqb-true a b e)))
    by false e = sym (ne_eqb c d (λ h. eqb-false a b e (from h)))

-- lengths that are those of their kinds
same_lengths : (rate : Rate) (n : ℕ) → eqb n (record_bytes (kind_of rate Index)) ≡ eqb (21 + (n - 4)) (record_bytes (kind_of rate Values))
same_lengths High n = same_eqb n 72 (21 + (n - 4)) 89 (λ e. omega (arith, e)) (λ e. omega (arith, e))
same_lengths Low n = same_eqb n 532 (21 + (n - 4)) 549 (λ e. omega (arith, e)) (λ e. omega (arith, e))

module _ (s : State) (rate : Rate) (r : List ℕ) (x : List ℤ) where
  abbrev values : List ℤ
  values = candidates_of Index r s.prev_lsp

  abbrev other : List ℕ
  other = written_out s rate r

  values_same : candidates other ≡ values
  unfolding written_out
  values_same = values-read _ (λ k. saturated-fits 32767 _ tt) (kind_of rate Values) (fields_of Index r)

  fields_same : fields_of Values other ≡ fields_of Index r
  unfolding tabulate value_bytes written_out
  fields_same = refl

  length-other : length other ≡ 21 + (length r - 4)
  unfolding tabulate value_bytes written_out
  length-other = omega (arith, length-drop 4 r)

  kind_other : byte other 0 ≡ kind_of rate Values
  unfolding written_out
  kind_other = refl

  -- what follows from F of the record, and from G of the other
  record Alike (F G : Result Frame Refusal) : Type 0 where
    answer : answer_to F s r ≡ answer_to G s other
    number : number_found F ≡ number_found G
    samples : samples_to F s r x ≡ samples_to G s other x

  -- a test that both pass or fail
  refused_or : (b : Bool) (n : Refusal) {F G : Result Frame Refusal} → Alike F G → Alike (cond b (Err n) F) (cond b (Err n) G)
  unfolding answer_to samples_to
  refused_or true n h = record { answer = refl; number = refl; samples = refl }
  refused_or false n h = h

  alike_received : Alike (Ok (Received rate Index)) (Ok (Received rate Values))
  unfolding answer_to samples_to
  alike_received = record {
    answer = λ i. let c = sym values_same i in acceptance (received_checked s c).outcome (received_state s rate (sym fields_same i) c);
    number = refl;
    samples = λ i. received_samples s rate (sym fields_same i) (sym values_same i);
  }

  alike_fields : (f : List ℕ) → Alike (found_received rate Index f) (found_received rate Values f)
  unfolding found_received
  alike_fields f =
      refused_or (wrong_lag_code f) LagCode (refused_or (wrong_step_code f) StepCode (refused_or (wrong_gain_index rate f) GainIndex
      (refused_or (wrong_flags rate f) Flags (refused_or (wrong_signs rate f) Signs alike_received))))

  alike-found : byte r 0 ≡ kind_of rate Index → Alike (found r) (found other)
  alike-found e =
      let f = fields_of Index r in
      let test = not (eqb (length r) (record_bytes (kind_of rate Index))) in
      let tested : test ≡ not (eqb (length other) (record_bytes (kind_of rate Values))) =
      ap not (same_lengths rate (length r) ∙ ap (λ (n : ℕ). eqb n (record_bytes (kind_of rate Values))) (sym length-other)) in
      let there : cond test (Err Length) (found_received rate Values f) ≡ found other =
      (λ i. cond (tested i) (Err Length) (found_received rate Values (sym fields_same i)))
      ∙ sym (found-by_kind other rate Values kind_other) in
      subst (λ (F : Result Frame Refusal). Alike F (found other)) (sym (found-by_kind r rate Index e))
      (subst (Alike (cond test (Err Length) (found_received rate Index f))) there (refused_or test Length (alike_fields f)))

  alike : byte r 0 ≡ kind_of rate Index → Alike (examined s r x) (examined s other x)
  unfolding examined
  alike e =
      refused_or (not (eqb (length x) 240)) SampleLength (refused_or (not (in_bounds s)) StateBounds (alike-found e))

pub index-written : IndexWritten
index-written s rate r x e = let a = alike s rate r x e in (a.answer, a.number, a.samples)
