-- The history of what follows a subframe is what the Rust keeps.
use mathlib.Core.Path.{◌≡◌, sym, ap, ◌∙◌}
use mathlib.Core.List.{List, ◌++◌, append_assoc}
use Prim.Native.Nat.{ℕ, ◌+◌, ◌-◌, ◌≤◌}
use native.Mathlib.Omega.{arith}
use lib.IntN.{ℤ}
use lib.ListN.{take, drop, length, length-append, length-drop}
use lib.Seq.{length-take-le, drop-append-le, drop-drop, take_at}
use Rattle.tables.specs.Constants.{subframe_size, exc_hist_size}
use Rattle.excitation.specs.Excitation.{history, with_subframe, HistoryPushed}
use Rattle.excitation.proofs.Parts.{drop-take}

module _ (x e : List ℤ) (p : ℕ) (size : length e ≡ subframe_size) (low : exc_hist_size ≤ p) (room : p + subframe_size ≤ length x) where
  -- the new history starts here
  abbrev start : ℕ
  start = p + subframe_size - exc_hist_size

  -- the samples of the old one that stay, 86 of them
  abbrev kept : List ℤ
  kept = drop start (take p x)

  before-length : length (take p x) ≡ p
  before-length = length-take-le p x (omega arith)

  kept-length : length kept ≡ exc_hist_size - subframe_size
  kept-length = simp length-drop (omega (arith, before-length))

  kept-is : kept ≡ drop subframe_size (history x p)
  kept-is =
      let a : start ≡ p - exc_hist_size + subframe_size = omega arith in
      let b : p ≡ p - exc_hist_size + exc_hist_size = omega arith in
      ap (λ (n : ℕ). drop n (take p x)) a
      ∙ sym (drop-drop subframe_size (p - exc_hist_size) (take p x))
      ∙ ap (λ (n : ℕ). drop subframe_size (drop (p - exc_hist_size) (take n x))) b
      ∙ ap (drop subframe_size) (drop-take (p - exc_hist_size) exc_hist_size x (omega arith))

  pushed : history (with_subframe x p e) (p + subframe_size) ≡ drop subframe_size (history x p) ++ e
  pushed =
      let rest = drop (p + subframe_size) x in
      let cut = drop-append-le start (take p x) (e ++ rest) (omega (arith, before-length)) in
      ap (take exc_hist_size) (cut ∙ sym (append_assoc kept e rest))
      ∙ take_at (kept ++ e) rest exc_hist_size (simp length-append (omega (arith, kept-length)))
      ∙ ap (λ (k : List ℤ). k ++ e) kept-is

pub history-pushed : HistoryPushed
history-pushed = pushed
