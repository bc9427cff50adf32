-- Coefficients (document 01, "LSPs"; the Rust's qdec.rs): the cosine of an LSP, the set of ten coefficients of LSPs, and a frame's four sets. LSPs and clauses are as in crate lsp's Lsps.
use Rattle.std.specs.Prelude.{cond, List, ℕ, zero, suc, ◌+◌, ◌-◌, ◌*◌, ◌/◌, ◌%◌, ltb, eqb, ℤ, pos, ◌+ℤ◌, ◌-ℤ◌, ◌*ℤ◌}
use Rattle.integers.specs.Base.{floor_div, entry, tabulate, up}
use Rattle.tables.specs.Constants.{lpc_order, subframes_per_frame, polynomial_one}
use Rattle.tables.specs.Tables.{cosines}
use Rattle.basicop.specs.Operators.{word16}
use Rattle.lsp.specs.Lsps.{interpolated}

-- ---- coefficients (cos_q14, lsp_to_lpc_q13, frame_lpc_q13; §2.7)

-- r 128ths of the way from the table's entry i to the next, with a floor
abbrev pub cosine_between : ℕ → ℕ → ℤ
cosine_between i r = entry cosines i +ℤ floor_div ((entry cosines (i + 1) -ℤ entry cosines i) *ℤ pos r) 128

-- the cosine of an LSP, in 16384ths; a negative LSP is read as 0
abbrev pub cosine : ℤ → ℤ
cosine f = cosine_between (up f / 128) (up f % 128)

-- the coefficient d places before i, 0 before the first
abbrev pub coefficient_before : (ℕ → ℤ) → ℕ → ℕ → ℤ
coefficient_before f i d = cond (ltb i d) (pos 0) (f (i - d))

-- a coefficient of a polynomial times 1 - 2 c z⁻¹ + z⁻², c in 16384ths, from the polynomial's x at the same place, y one before and z two before; the product is floored
abbrev pub factor_term : ℤ → ℤ → ℤ → ℤ → ℤ
factor_term c x y z = x -ℤ floor_div (y *ℤ c) 8192 +ℤ z

-- coefficient i of f times that factor
abbrev pub times_factor : (ℕ → ℤ) → ℤ → ℕ → ℤ
times_factor f c i = factor_term c (f i) (coefficient_before f i 1) (coefficient_before f i 2)

-- coefficient i of the product of the factors of c 0, c 1, …, c (n - 1), in 2 ^ 24ths
unfoldable pub product : (ℕ → ℤ) → ℕ → ℕ → ℤ
product c zero i = cond (eqb i 0) (pos polynomial_one) (pos 0)
product c (suc n) i = times_factor (product c n) (c n) i

-- coefficient i of the product of the factors of the five LSPs at first, first + 2, …
abbrev pub polynomial : List ℤ → ℕ → ℕ → ℤ
polynomial p first = product (λ k. cosine (entry p (2 * k + first))) 5

-- a + b + c - d halved with a floor, negated, rounded from 2 ^ 24ths to 8192ths and limited to 16 bits
abbrev pub rounded_sum : ℤ → ℤ → ℤ → ℤ → ℤ
rounded_sum a b c d = word16 (floor_div (pos 1024 -ℤ floor_div (a +ℤ b +ℤ c -ℤ d) 2) 2048)

-- coefficient j + 1 of -(P (1 + z⁻¹) + Q (1 - z⁻¹)) / 2, where P is of the LSPs at even places and Q of those at odd ones
abbrev pub coefficient : List ℤ → ℕ → ℤ
coefficient p j = rounded_sum (polynomial p 0 (j + 1)) (polynomial p 0 j) (polynomial p 1 (j + 1)) (polynomial p 1 j)

-- those at j from 0 to 9: a set
abbrev pub coefficients : List ℤ → List ℤ
coefficients p = tabulate (coefficient p) lpc_order

-- a set for each subframe
abbrev pub frame_coefficients : List ℤ → List ℤ → List (List ℤ)
frame_coefficients previous current = tabulate (λ k. coefficients (interpolated k previous current)) subframes_per_frame
