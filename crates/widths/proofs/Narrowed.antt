-- What narrowing does not change.
use mathlib.Core.Path.{◌≡◌, ap, ◌∙◌}
use Prim.Native.Nat.{ℕ, ◌≤◌}
use lib.ListN.{length, get_or-eq_default}
use lib.IntN.{ℤ, pos}
use mathlib.Core.List.{List}
use mir.Syntax.{w16}
use mir.Val.{SFits}
use Rattle.integers.specs.Base.{entry}
use Rattle.integers.specs.Signed.{zero-fits}
use Rattle.integers.specs.Saturation.{saturated-same}
use Rattle.basicop.specs.Operators.{word16}

-- a word of 16 bits
pub word_narrowed : (z : ℤ) → SFits w16 z → word16 z ≡ z
word_narrowed z f = saturated-same 32767 f tt

-- past the end they are 0
pub past-narrowed : (xs : List ℤ) (i : ℕ) → length xs ≤ i → word16 (entry xs i) ≡ pos 0
past-narrowed xs i h = ap word16 (get_or-eq_default xs (pos 0) h) ∙ word_narrowed (pos 0) (zero-fits w16)
