-- How the input is cut makes no difference to what is carried.
use mathlib.Core.Path.{◌≡◌, refl, sym, ap, ◌∙◌}
use mathlib.Core.Bool.{Bool, true, false, cond}
use mathlib.Core.List.{List, [], ◌∷◌, ◌++◌}
use Prim.Native.Nat.{ℕ, ◌+◌, ◌-◌, ◌≤◌}
use native.Mathlib.Omega.{arith}
use lib.Dec.{eqb}
use lib.ListN.{length, drop, length-append}
use Rattle.lines.specs.Stream.{with_byte, stream_after, to_newline, progress_of}
use Rattle.lines.specs.declared.Stream.{Stream}
use Rattle.lines.specs.declared.Progress.{Progress}

-- ---- two parts

pub after_cut : (r : Stream) (xs ys : List ℕ) → stream_after r (xs ++ ys) ≡ stream_after (stream_after r xs) ys
unfolding stream_after
after_cut r [] ys = refl
after_cut r (b ∷ xs) ys = after_cut (with_byte r b) xs ys

pub nothing-carried : (r : Stream) (xs : List ℕ) → length xs ≤ 0 → stream_after r xs ≡ r
unfolding stream_after
nothing-carried r [] h = refl
nothing-carried r (b ∷ xs) h = absurd (let z : ⊥ = omega arith in z)

-- ---- what `feed` takes, and the rest

rest_of : (t : Bool) (xs ys : List ℕ) → ys ++ drop (length ys) xs ≡ xs → cond t [] ys ++ drop (length (cond t [] ys)) xs ≡ xs
rest_of true xs ys e = refl
rest_of false xs ys e = e

pub piece_rest : (xs : List ℕ) → to_newline xs ++ drop (length (to_newline xs)) xs ≡ xs
unfolding to_newline
piece_rest [] = refl
piece_rest (b ∷ xs) = ap (λ (l : List ℕ). b ∷ l) (rest_of (eqb b 10) xs (to_newline xs) (piece_rest xs))

-- it is one byte at the least
pub piece_some : (xs : List ℕ) → length xs ≤ length (to_newline xs) + (length xs - 1)
unfolding to_newline
piece_some [] = omega arith
piece_some (b ∷ xs) = omega arith

-- what a call of `feed` leaves, for its caller
pub progress_step : (r : Stream) (xs : List ℕ) (f : Progress) → f ≡ progress_of r xs → stream_after r xs ≡ stream_after f.stream (drop f.used xs)
unfolding progress_of
progress_step r xs f e =
    let p = to_newline xs in
    let g : Progress → Stream = λ d. stream_after d.stream (drop d.used xs) in
    ap (stream_after r) (sym (piece_rest xs)) ∙ after_cut r p (drop (length p) xs) ∙ ap g (sym e)

pub progress_carried : (r : Stream) (xs : List ℕ) (f : Progress) → f ≡ progress_of r xs → f.stream ≡ stream_after r (to_newline xs)
unfolding progress_of
progress_carried r xs f e = ap (λ (d : Progress). d.stream) e

pub progress_used : (r : Stream) (xs : List ℕ) (f : Progress) → f ≡ progress_of r xs → (f.used ≤ length xs) × (length xs ≤ f.used + (length xs - 1))
unfolding progress_of
progress_used r xs f e =
    let p = to_newline xs in
    let u : f.used ≡ length p = ap (λ (d : Progress). d.used) e in
    (omega (arith, u, ap length (piece_rest xs), length-append p (drop (length p) xs)), omega (arith, u, piece_some xs))
