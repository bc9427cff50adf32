use Rattle.std.specs.Prelude.{◌≡◌, refl, List, ◌∷◌, ℕ, ◌+◌, ◌*◌, ◌^◌, ◌<◌, ℤ}
use Rattle.std.specs.Int.{w16}
use Rattle.std.specs.Int.Signed.{mag}
use Rattle.std.proofs.Common.{ap, ◌∙◌, arith, rules, to_z, of_z}
use Rattle.integers.specs.Base.{entry, tabulate}
use Rattle.integers.specs.Signed.{read_back}
use Rattle.codebooks.specs.Codebooks.{band0, band1, band2}
use Rattle.codebooks.proofs.lsp_codebook_rows.Goals as goal

-- an entry as the code reads it, and those after it
next : (table : List ℤ) (i j : ℕ) {xs ys : List ℤ} → i ≡ j → mag (entry table i) < 2 ^ 15 → xs ≡ ys → (to_z w16 (of_z w16 (entry table i)) ∷ xs) ≡ (entry table j ∷ ys)
next table i j e p f = λ k. (read_back w16 (entry table i) p ∙ ap (entry table) e) k ∷ f k

pub returns : goal.returns
unfolding tabulate band0 band1 band2
returns c =
    let a = c.from-a.result * 3 in
    let b = c.from-b.result * 3 in
    let d = c.from-c.result * 4 in
    let k = c.args.row0 * 3 in
    let l = c.args.row1 * 3 in
    let m = c.args.row2 * 4 in
    next band0 a (k + 0) (omega arith) (search rules)
    (next band0 (a + 1) (k + 1) (omega arith) (search rules)
    (next band0 (a + 2) (k + 2) (omega arith) (search rules)
    (next band1 b (l + 0) (omega arith) (search rules)
    (next band1 (b + 1) (l + 1) (omega arith) (search rules)
    (next band1 (b + 2) (l + 2) (omega arith) (search rules)
    (next band2 d (m + 0) (omega arith) (search rules)
    (next band2 (d + 1) (m + 1) (omega arith) (search rules)
    (next band2 (d + 2) (m + 2) (omega arith) (search rules)
    (next band2 (d + 3) (m + 3) (omega arith) (search rules) refl)))))))))
