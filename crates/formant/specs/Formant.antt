-- The formant filter (document 01, "Formant, tilt, gain"; the Rust's formant_agc_subframe; §3.8, eq. 49.1 of G.723.1). A memory is ten samples, the most recent first.
use Rattle.std.specs.Prelude.{List, ◌∷◌, ℕ, zero, suc, ℤ, pos, ◌-ℤ◌, ◌*ℤ◌}
use Rattle.integers.specs.Base.{entry, tabulate}
use Rattle.tables.specs.Constants.{lpc_order, lpc_one}
use Rattle.tables.specs.Tables.{postfilter_zeros, postfilter_poles}
use Rattle.basicop.specs.Operators.{mult16}
use Rattle.synthesis.specs.Synthesis.{prediction, driven_subframe, driven_memory}

-- ---- its coefficients

-- coefficients weighted by a table
abbrev pub weighted : List ℤ → List ℤ → List ℤ
weighted a table = tabulate (λ i. mult16 (entry a i) (entry table i)) lpc_order

-- those of its zeros, and of its poles
abbrev pub zeros : List ℤ → List ℤ
zeros a = weighted a postfilter_zeros

abbrev pub poles : List ℤ → List ℤ
poles a = weighted a postfilter_poles

-- ---- the filter

-- its input after n samples of the subframe y, the most recent first, on top of the memory
unfoldable pub inputs : List ℤ → List ℤ → ℕ → List ℤ
inputs y memory zero = memory
inputs y memory (suc n) = entry y n ∷ inputs y memory n

-- The subframe y, with the coefficients a, from the memory `num` of its input.
module _ (a y num : List ℤ) where
  -- what its poles get for sample n, in 8192ths: the input, less what the zeros predict from past inputs
  abbrev pub after_zeros : ℕ → ℤ
  after_zeros n = entry y n *ℤ pos lpc_one -ℤ prediction (zeros a) (inputs y num n)

  -- its output from the memory `den` of past outputs, and that memory after it
  abbrev pub formant : List ℤ → List ℤ
  formant den = driven_subframe (poles a) after_zeros den

  abbrev pub formant_memory : List ℤ → List ℤ
  formant_memory den = driven_memory (poles a) after_zeros den
