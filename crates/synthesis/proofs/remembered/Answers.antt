use Rattle.std.proofs.Common.{◌≡◌, ℕ, ◌≤◌, List, [], ◌∷◌, length, take, ℤ, pos, ◌∙◌, arith, to_z, of_z, to_z-of_z}
use Rattle.std.specs.Int.{w64}
use Rattle.integers.specs.Base.{entry, tabulate, AllFit}
use Rattle.integers.specs.Signed.{back, all_fit}
use Rattle.integers.specs.Fill.{take-tabulate}
use Rattle.synthesis.proofs.remembered.Goals as goal

-- r is what reads an element back from its bits
ten : (r : ℤ → ℤ) {x y : ℤ} (l : List ℤ) → x ≡ y → ((i : ℕ) → r (entry l i) ≡ entry l i) → 9 ≤ length l → let e : ℕ → ℤ = λ i. r (entry l i) in
    x ∷ e 0 ∷ e 1 ∷ e 2 ∷ e 3 ∷ e 4 ∷ e 5 ∷ e 6 ∷ e 7 ∷ e 8 ∷ [] ≡ y ∷ take 9 l
unfolding tabulate
ten r l e h k = simp (e, h, take-tabulate (pos 0) l 9 k)

pub returns : goal.returns
returns c =
    let f : AllFit w64 c.args.mem = all_fit 10 c.well_formed.0 in
    let newest = back w64 c.from.type_inv (c.from.ensures ∙ to_z-of_z c.ranges.y) in
    ten (λ z. to_z w64 (of_z w64 z)) c.args.mem newest (λ i. to_z-of_z (f.at i)) (omega (arith, c.well_formed.0.1.0.1))
