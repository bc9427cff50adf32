-- How the input is cut makes no difference to what is written and carried.
use mathlib.Core.Path.{◌≡◌, refl, sym, ap, ◌∙◌}
use mathlib.Core.Bool.{cond}
use mathlib.Core.List.{List, [], ◌∷◌, ◌++◌, append_assoc}
use Prim.Native.Nat.{ℕ, zero, suc, ◌≤◌}
use native.Mathlib.Omega.{arith}
use lib.Dec.{eqb}
use lib.ListN.{length, drop, length-drop}
use Rattle.lines.specs.Stream.{end_text, with_byte, stream_after, answers_from, to_newline, progress_of}
use Rattle.lines.specs.declared.Stream.{Stream}
use Rattle.lines.proofs.Cuts.{after_cut, nothing-carried, piece_rest, piece_some}
use Rattle.whole.specs.Whole.{piece_text, piece_stream, pieces_text, pieces_stream, joined}

-- ---- two parts

answers_cut : (r : Stream) (xs ys : List ℕ) → answers_from r (xs ++ ys) ≡ answers_from r xs ++ answers_from (stream_after r xs) ys
unfolding stream_after answers_from
answers_cut r [] ys = refl
answers_cut r (b ∷ xs) ys =
    let a : List ℕ = cond (eqb b 10) (end_text r) [] in
    ap (λ (l : List ℕ). a ++ l) (answers_cut (with_byte r b) xs ys) ∙ sym (append_assoc a (answers_from (with_byte r b) xs) (answers_from (stream_after (with_byte r b) xs) ys))

pub no_answer : (r : Stream) (xs : List ℕ) → length xs ≤ 0 → answers_from r xs ≡ []
unfolding answers_from
no_answer r [] h = refl
no_answer r (b ∷ xs) h = absurd (let z : ⊥ = omega arith in z)

-- ---- one piece, call by call

left : (n : ℕ) (xs : List ℕ) → length xs ≤ suc n → length (drop (length (to_newline xs)) xs) ≤ n
left n xs h = omega (arith, length-drop (length (to_newline xs)) xs, piece_some xs)

-- one call, then the others
call_text : (n : ℕ) (r : Stream) (xs : List ℕ) → let p = to_newline xs in piece_text (suc n) r xs ≡ answers_from r p ++ piece_text n (stream_after r p) (drop (length p) xs)
unfolding piece_text progress_of
call_text n r xs = refl

call_stream : (n : ℕ) (r : Stream) (xs : List ℕ) → let p = to_newline xs in piece_stream (suc n) r xs ≡ piece_stream n (stream_after r p) (drop (length p) xs)
unfolding piece_stream progress_of
call_stream n r xs = refl

no_calls-text : (r : Stream) (xs : List ℕ) → piece_text 0 r xs ≡ []
unfolding piece_text
no_calls-text r xs = refl

no_calls_stream : (r : Stream) (xs : List ℕ) → piece_stream 0 r xs ≡ r
unfolding piece_stream
no_calls_stream r xs = refl

piece_text_lem : (n : ℕ) (r : Stream) (xs : List ℕ) → length xs ≤ n → piece_text n r xs ≡ answers_from r xs
piece_text_lem zero r xs h = no_calls-text r xs ∙ sym (no_answer r xs h)
piece_text_lem (suc n) r xs h =
    let p = to_newline xs in
    let rest = drop (length p) xs in
    call_text n r xs ∙ ap (λ (l : List ℕ). answers_from r p ++ l) (piece_text_lem n (stream_after r p) rest (left n xs h)) ∙ sym (answers_cut r p rest) ∙ ap (answers_from r) (piece_rest xs)

piece_stream_lem : (n : ℕ) (r : Stream) (xs : List ℕ) → length xs ≤ n → piece_stream n r xs ≡ stream_after r xs
piece_stream_lem zero r xs h = no_calls_stream r xs ∙ sym (nothing-carried r xs h)
piece_stream_lem (suc n) r xs h =
    let p = to_newline xs in
    let rest = drop (length p) xs in
    call_stream n r xs ∙ piece_stream_lem n (stream_after r p) rest (left n xs h) ∙ sym (after_cut r p rest) ∙ ap (stream_after r) (piece_rest xs)

-- ---- all pieces

pub pieces_stream_lem : (r : Stream) (ps : List (List ℕ)) → pieces_stream r ps ≡ stream_after r (joined ps)
unfolding pieces_stream joined
pieces_stream_lem r [] = sym (nothing-carried r [] (omega arith))
pieces_stream_lem r (p ∷ ps) =
    ap (λ (q : Stream). pieces_stream q ps) (piece_stream_lem (length p) r p (omega arith)) ∙ pieces_stream_lem (stream_after r p) ps ∙ sym (after_cut r p (joined ps))

pub pieces_text_lem : (r : Stream) (ps : List (List ℕ)) → pieces_text r ps ≡ answers_from r (joined ps)
unfolding pieces_text joined
pieces_text_lem r [] = sym (no_answer r [] (omega arith))
pieces_text_lem r (p ∷ ps) =
    (λ i. piece_text_lem (length p) r p (omega arith) i ++ pieces_text (piece_stream_lem (length p) r p (omega arith) i) ps)
    ∙ ap (λ (l : List ℕ). answers_from r p ++ l) (pieces_text_lem (stream_after r p) ps) ∙ sym (answers_cut r p (joined ps))
