-- The tallies count the numbers of the lines.
use Rattle.std.specs.Prelude.{Result, Ok, Err}
use Rattle.numbers.specs.declared.Refusal.{Refusal}
use mathlib.Core.Path.{◌≡◌, refl, sym, subst, ◌∙◌}
use mathlib.Core.Bool.{Bool, true, false, cond}
use mathlib.Core.List.{List, [], ◌∷◌}
use mathlib.Core.Logic.{⊎_elim, ◌⊎◌, inl, inr}
use Prim.Native.Nat.{ℕ, ◌+◌, ◌≤◌, ◌<◌, min}
use native.Mathlib.Omega.{arith}
use lib.Dec.{eqb}
use lib.ListN.{length, get_or, length-set}
use lib.Seq.{get_or-set_same, get_or-set_other}
use borrow.Author.Tests.{eqb-true, eqb-false, ne_eqb}
use Rattle.tables.specs.Constants.{numbers_counted}
use Rattle.counts.specs.Counts.{how_many, most, counted}
use Rattle.refusals.specs.Refusals.{number_found}
use Rattle.decoder.specs.Decoder.{examined}
use Rattle.refusals.specs.declared.Frame.{Frame}
use Rattle.refusals.specs.declared.Frame.TheVariants.{Erased, Received}
use Rattle.numbers.specs.declared.Refusal.TheVariants.{SampleLength, StateBounds, NoByte, Kind, Length, LagCode, StepCode, GainIndex, Flags, Signs}
use Rattle.state.specs.declared.State.{State}
use Rattle.lines.specs.Replies.{lent_samples, number_for, line_number, line_state, is_record_line}
use Rattle.whole.specs.Output.{numbers_from}
use Rattle.digits.specs.Digits.{bytes_of}
use Rattle.digits.proofs.Characters.{either}

-- the tallies after each number
unfoldable pub counted_all : List ℕ → List ℕ → List ℕ
counted_all ts [] = ts
counted_all ts (n ∷ ns) = counted_all (counted ts n) ns

-- ---- every number has its place

below : (f : Result Frame Refusal) → number_found f < numbers_counted
below (Err SampleLength) = omega arith
below (Err StateBounds) = omega arith
below (Err NoByte) = omega arith
below (Err Kind) = omega arith
below (Err Length) = omega arith
below (Err LagCode) = omega arith
below (Err StepCode) = omega arith
below (Err GainIndex) = omega arith
below (Err Flags) = omega arith
below (Err Signs) = omega arith
below (Ok Erased) = omega arith
below (Ok (Received rate form)) = omega arith

number-below : (b : Bool) (bytes : List ℕ) (s : State) → number_for b bytes s < numbers_counted
unfolding number_for
number-below true bytes s = below (examined s bytes lent_samples)
number-below false bytes s = omega arith

-- none is given that has no place
pub none_above : (ls : List (List ℕ)) (s : State) (n : ℕ) → numbers_counted ≤ n → how_many n (numbers_from s ls) ≡ 0
unfolding how_many numbers_from
none_above [] s n h = refl
none_above (l ∷ ls) s n h =
    let b : line_number s l < numbers_counted = number-below (is_record_line l) (bytes_of l) s in
    let apart : line_number s l ≡ n → ⊥ = λ e. omega (arith, b) in
    λ i. cond {A = ℕ} (ne_eqb (line_number s l) n apart i) 1 0 + none_above ls (line_state s l) n h i

-- ---- one number more

counted_same : (ts : List ℕ) (n : ℕ) → n < length ts → get_or (counted ts n) n 0 ≡ min (get_or ts n 0 + 1) most
counted_same ts n h = get_or-set_same ts n (min (get_or ts n 0 + 1) most) 0 h

counted-other : (ts : List ℕ) (n m : ℕ) → (m ≡ n → ⊥) → get_or (counted ts n) m 0 ≡ get_or ts m 0
counted-other ts n m h = get_or-set_other ts n m (min (get_or ts n 0 + 1) most) 0 h

-- m is n, and there is room for it; or it is another
one_more : (ts : List ℕ) (m n : ℕ) → m < length ts
    → (get_or (counted ts m) n 0 ≡ min (get_or ts n 0 + cond (eqb m n) 1 0) most) ⊎ (get_or (counted ts m) n 0 ≡ get_or ts n 0) × (cond {A = ℕ} (eqb m n) 1 0 ≡ 0)
one_more ts m n h =
    ⊎_elim (λ (e : eqb m n ≡ true). inl (rw e (subst (λ (k : ℕ). get_or (counted ts m) k 0 ≡ min (get_or ts k 0 + 1) most) (eqb-true m n e) (counted_same ts m h))))
    (λ (e : eqb m n ≡ false). inr (counted-other ts m n (λ k. eqb-false m n e (sym k)), rw e)) (either (eqb m n))

-- ---- all of them

-- a tally that is limited after each number is limited once
limited-once : (t v c h : ℕ) → t ≤ most → (v ≡ min (t + c) most) ⊎ (v ≡ t) × (c ≡ 0) → min (v + h) most ≡ min (t + (c + h)) most
limited-once t v c h b e = ⊎_elim (λ (p : v ≡ min (t + c) most). omega arith) (λ (q : (v ≡ t) × (c ≡ 0)). omega (arith, q.0, q.1)) e

still-limited : (t v c : ℕ) → t ≤ most → (v ≡ min (t + c) most) ⊎ (v ≡ t) × (c ≡ 0) → v ≤ most
still-limited t v c b e = ⊎_elim (λ (p : v ≡ min (t + c) most). omega arith) (λ (q : (v ≡ t) × (c ≡ 0)). omega (arith, q.0)) e

none : (t : ℕ) → t ≤ most → t ≡ min (t + 0) most
none t b = omega arith

pub tallied : (ls : List (List ℕ)) (s : State) (ts : List ℕ) (n : ℕ) → length ts ≡ numbers_counted → get_or ts n 0 ≤ most
    → get_or (counted_all ts (numbers_from s ls)) n 0 ≡ min (get_or ts n 0 + how_many n (numbers_from s ls)) most
unfolding counted_all how_many numbers_from
tallied [] s ts n h b = none (get_or ts n 0) b
tallied (l ∷ ls) s ts n h b =
    let m = line_number s l in
    let c : ℕ = cond (eqb m n) 1 0 in
    let o = one_more ts m n (rw h (number-below (is_record_line l) (bytes_of l) s)) in
    tallied ls (line_state s l) (counted ts m) n (length-set ts m (min (get_or ts m 0 + 1) most) ∙ h) (still-limited (get_or ts n 0) (get_or (counted ts m) n 0) c b o)
    ∙ limited-once (get_or ts n 0) (get_or (counted ts m) n 0) c (how_many n (numbers_from (line_state s l) ls)) b o
