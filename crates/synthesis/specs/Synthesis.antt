-- Synthesis of a subframe (document 01, "Synthesis"; the Rust's synthesis_subframe with its memory clamped; eq. 48 of G.723.1). A memory is ten samples, the most recent first.
use Rattle.std.specs.Prelude.{List, ◌∷◌, ℕ, zero, suc, ◌+◌, ◌/◌, ℤ, pos, ◌+ℤ◌, ◌-ℤ◌, ◌*ℤ◌, take}
use Rattle.integers.specs.Base.{floor_div, sum_to, entry, tabulate}
use Rattle.tables.specs.Constants.{lpc_order, lpc_one, subframe_size}
use Rattle.basicop.specs.Operators.{word16}

-- the sum of ten coefficients times ten past samples, the most recent first
abbrev pub prediction : List ℤ → List ℤ → ℤ
prediction a past = sum_to (λ j. entry a j *ℤ entry past j) lpc_order

-- back from 8192ths: rounded, and limited to 16 bits
abbrev pub rounded : ℤ → ℤ
rounded z = word16 (floor_div (z +ℤ pos (lpc_one / 2)) lpc_one)

-- what poles with the coefficients a have put out after n samples, the most recent first, on top of the memory; v has their inputs, in 8192ths
unfoldable pub driven : List ℤ → (ℕ → ℤ) → List ℤ → ℕ → List ℤ
driven a v memory zero = memory
driven a v memory (suc n) = let past = driven a v memory n in rounded (v n +ℤ prediction a past) ∷ past

-- the subframe, the first sample first
unfoldable pub driven_subframe : List ℤ → (ℕ → ℤ) → List ℤ → List ℤ
driven_subframe a v memory = tabulate (λ n. entry (driven a v memory (n + 1)) 0) subframe_size

-- the memory after it
unfoldable pub driven_memory : List ℤ → (ℕ → ℤ) → List ℤ → List ℤ
driven_memory a v memory = take lpc_order (driven a v memory subframe_size)

-- ---- synthesis (synthesis_subframe): the inputs are the excitation x

abbrev pub excited : List ℤ → ℕ → ℤ
excited x n = entry x n *ℤ pos lpc_one

-- the subframe, and the memory after it
abbrev pub synthesised : List ℤ → List ℤ → List ℤ → List ℤ
synthesised a x memory = driven_subframe a (excited x) memory

abbrev pub memory_after : List ℤ → List ℤ → List ℤ → List ℤ
memory_after a x memory = driven_memory a (excited x) memory

-- ---- the poles of a filter with zeros (crate formant): its input y, less what the zeros predict for each sample, in 8192ths

abbrev pub difference : List ℤ → List ℤ → ℕ → ℤ
difference y less n = entry y n *ℤ pos lpc_one -ℤ entry less n
