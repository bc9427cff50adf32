-- Laws of parts of lists.
use mathlib.Core.Path.{◌≡◌, ap, ◌∙◌}
use mathlib.Core.List.{List}
use Prim.Native.Nat.{ℕ, ◌+◌, ◌≤◌}
use lib.ListN.{take, drop, length}
use lib.Seq.{length-take-le, take-add, drop_at}

-- a part in the middle, cut at either end first
pub drop-take {ℓ} : {A : Type ℓ} (n m : ℕ) (l : List A) → n ≤ length l → drop n (take (n + m) l) ≡ take m (drop n l)
drop-take n m l h = ap (drop n) (take-add n m l) ∙ drop_at (take n l) (take m (drop n l)) n (length-take-le n l h)
