-- LSPs (document 01, "LSPs"; document 02, E1; the Rust's qdec.rs): interpolated, and the candidates of an index and of erased frames. Clauses are those of G.723.1 that the Rust names.
use Rattle.std.specs.Prelude.{List, ℕ, zero, suc, ℤ, pos, ◌+ℤ◌, ◌*ℤ◌}
use Rattle.integers.specs.Base.{floor_div, entry, tabulate}
use Rattle.tables.specs.Constants.{lpc_order, lsp_predictor, lsp_predictor_erased}
use Rattle.tables.specs.Tables.{mean_lsps}
use Rattle.codebooks.specs.Codebooks.{rows}
use Rattle.basicop.specs.Operators.{add16, sub16, mult16}

-- ---- interpolation (lsp_interpolate; §2.7)

-- a previous and a current LSP in a:b of four parts, rounded
abbrev pub weighted_mean : ℕ → ℕ → ℤ → ℤ → ℤ
weighted_mean a b previous current = floor_div (previous *ℤ pos a +ℤ current *ℤ pos b +ℤ pos 2) 4

-- all ten
abbrev pub blend : ℕ → ℕ → List ℤ → List ℤ → List ℤ
blend a b previous current = tabulate (λ i. weighted_mean a b (entry previous i) (entry current i)) lpc_order

-- those of subframe k: 3:1, 1:1 and 1:3, and then the current ones
abbrev pub interpolated : ℕ → List ℤ → List ℤ → List ℤ
interpolated zero previous current = blend 3 1 previous current
interpolated (suc zero) previous current = blend 2 2 previous current
interpolated (suc (suc zero)) previous current = blend 1 3 previous current
interpolated (suc (suc (suc k))) previous current = current

-- ---- prediction

-- the mean and b 32768ths of the previous LSP's distance from it; the distance saturates, and the product is floored
abbrev pub predicted : ℤ → ℤ → ℤ → ℤ
predicted b mean previous = add16 mean (mult16 (sub16 previous mean) b)

-- ---- an index (lsp_decode; §2.6; document 02, E1)

-- the prediction by 12/32, and the row's entry
abbrev pub decoded_lsp : ℤ → ℤ → ℤ → ℤ
decoded_lsp mean previous entry = add16 (predicted (pos lsp_predictor) mean previous) entry

-- all ten, of the rows that the index's three bytes pick
abbrev pub decoded : ℕ → ℕ → ℕ → List ℤ → List ℤ
decoded row0 row1 row2 previous =
    tabulate (λ i. decoded_lsp (entry mean_lsps i) (entry previous i) (entry (rows row0 row1 row2) i)) lpc_order

-- ---- erased frames (lsp_extrapolate; §3.10.1)

-- the prediction by 23/32, all ten
abbrev pub extrapolated : List ℤ → List ℤ
extrapolated previous = tabulate (λ i. predicted (pos lsp_predictor_erased) (entry mean_lsps i) (entry previous i)) lpc_order
