-- What is carried is what some bytes leave.
use mathlib.Core.Path.{◌≡◌, refl, sym, ap, ◌∙◌}
use mathlib.Core.List.{List, [], ◌++◌}
use Prim.Native.Nat.{ℕ}
use native.Mathlib.Omega.{arith}
use lib.ListN.{replicate}
use Rattle.tables.specs.Constants.{numbers_counted}
use Rattle.lines.specs.Stream.{fresh_stream, stream_after, finished, printed_tallies}
use Rattle.lines.specs.declared.Stream.{Stream}
use Rattle.lines.proofs.Cuts.{after_cut, nothing-carried}

abbrev pub Reached : Stream → Stream → Type 0
Reached r s = (xs : List ℕ) × (s ≡ stream_after r xs)

pub reached-start : (r : Stream) → Reached r r
reached-start r = ([], sym (nothing-carried r [] (omega arith)))

-- and more bytes after them
pub reached-more : (r s t : Stream) (ys : List ℕ) → Reached r s → t ≡ stream_after s ys → Reached r t
reached-more r s t ys h e = (h.0 ++ ys, e ∙ ap (λ (q : Stream). stream_after q ys) h.1 ∙ sym (after_cut r h.0 ys))

-- no input leaves no tallies to print
pub none_printed : printed_tallies [] ≡ replicate numbers_counted 0
unfolding fresh_stream stream_after finished
none_printed = refl
