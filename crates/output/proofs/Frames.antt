-- The samples of a frame, subframe by subframe.
use mathlib.Core.Path.{◌≡◌, refl, ap, ◌∙◌}
use mathlib.Core.Bool.{Bool, cond}
use mathlib.Core.List.{List, [], ◌++◌, append-nil}
use Prim.Native.Nat.{ℕ, zero, suc, ◌+◌, ◌*◌, ◌≤◌}
use native.Mathlib.Numerals.{add-one}
use native.Mathlib.Omega.{arith}
use borrow.Author.Tests.{eq-eqb, ne_eqb}
use lib.Dec.{eqb}
use lib.ListN.{length, take, drop, get_or, length-append, length-drop, drop_of_length-le}
use lib.Seq.{drop-drop}
use lib.IntN.{ℤ}
use Rattle.integers.specs.Lent.{lent}
use Rattle.output.specs.Output.{subframe_output, filters_after, filters_at, output_to, frame_output, frame_filters, output_in, filters_in}
use Rattle.output.specs.declared.Filters.{Filters}
use Rattle.output.proofs.Subframes.{output-length}

module _ (on : Bool) (sets inputs : List (List ℤ)) (f : Filters) where
  -- the samples of subframe k
  abbrev pub output_at : ℕ → List ℤ
  output_at k = subframe_output on (get_or sets k []) (get_or inputs k []) (filters_at on sets inputs f k)

  pub filters_zero : f ≡ filters_at on sets inputs f 0
  unfolding filters_at
  filters_zero = refl

  pub filters_step : (k : ℕ) →
      filters_at on sets inputs f (k + 1) ≡ filters_after on (get_or sets k []) (get_or inputs k []) (filters_at on sets inputs f k)
  unfolding filters_at
  filters_step k = rw add-one

  output-step : (k : ℕ) → output_to on sets inputs f (k + 1) ≡ output_to on sets inputs f k ++ output_at k
  unfolding output_to
  output-step k = rw add-one

  pub output-to-length : (k : ℕ) → length (output_to on sets inputs f k) ≡ 60 * k
  unfolding output_to
  output-to-length zero = refl
  output-to-length (suc k) =
      let n = output-length on (get_or sets k []) (get_or inputs k []) (filters_at on sets inputs f k) in
      length-append (output_to on sets inputs f k) (output_at k) ∙ omega (arith, output-to-length k, n)

  -- ---- the samples while the frame is written: those of the first k subframes, then as they were

  abbrev pub written : List ℤ → ℕ → List ℤ
  written o k = output_to on sets inputs f k ++ drop (60 * k) o

  pub written_start : (o : List ℤ) → o ≡ written o 0
  unfolding output_to
  written_start o = refl

  -- subframe k has written the part of m that it was lent
  pub written_next : (o samples : List ℤ) (k m : ℕ) → m ≡ 60 → samples ≡ written o k →
      take (60 * k) samples ++ (output_at k ++ drop m (drop (60 * k) samples)) ≡ written o (k + 1)
  written_next o samples k m hm e =
      let n : 60 * (k + 1) ≡ 60 * k + 60 = omega arith in
      rw (hm, e, n, output-step k, ← drop-drop 60 (60 * k) o)
      (lent (output_to on sets inputs f k) (drop (60 * k) o) (output_at k) (60 * k) 60 (output-to-length k))

  pub written-length : (o : List ℤ) (k : ℕ) → length o ≡ 240 → k ≤ 4 → length (written o k) ≡ 240
  written-length o k e h =
      length-append (output_to on sets inputs f k) (drop (60 * k) o) ∙ omega (arith, output-to-length k, length-drop (60 * k) o)

  pub written_end : (o : List ℤ) (k : ℕ) → length o ≡ 240 → k ≡ 4 → written o k ≡ output_to on sets inputs f 4
  written_end o k e h =
      let all = output_to on sets inputs f 4 in
      ap (written o) h ∙ ap (λ (l : List ℤ). all ++ l) (drop_of_length-le o {i = 240} (omega arith)) ∙ append-nil all

  -- ---- lent samples, by their length

  module _ (samples : List ℤ) where
    choice : {A : Type 0} {b : Bool} (x y : A) → eqb (length samples) 240 ≡ b → cond (eqb (length samples) 240) x y ≡ cond b x y
    choice x y e = ap (λ (t : Bool). cond t x y) e

    -- a frame's
    pub filters_in_lem : length samples ≡ 240 → filters_in on sets inputs f samples ≡ frame_filters on sets inputs f
    filters_in_lem h = choice (frame_filters on sets inputs f) f (eq-eqb (length samples) 240 h)

    pub output_in_lem : length samples ≡ 240 → output_in on sets inputs f samples ≡ frame_output on sets inputs f
    output_in_lem h = choice (frame_output on sets inputs f) samples (eq-eqb (length samples) 240 h)

    -- others
    pub filters_kept : (length samples ≡ 240 → ⊥) → filters_in on sets inputs f samples ≡ f
    filters_kept h = choice (frame_filters on sets inputs f) f (ne_eqb (length samples) 240 h)

    pub samples-kept : (length samples ≡ 240 → ⊥) → output_in on sets inputs f samples ≡ samples
    samples-kept h = choice (frame_output on sets inputs f) samples (ne_eqb (length samples) 240 h)
