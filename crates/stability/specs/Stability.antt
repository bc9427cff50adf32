-- Stabilised LSPs (document 01, "LSPs"; document 02, E2; the Rust's qdec.rs): candidates whose short gaps are widened, and what was done to them. An LSP f is the frequency π f / 32768; clauses are those of G.723.1 that the Rust names.
use Rattle.std.specs.Prelude.{Bool, false, cond, ◌||◌, List, ℕ, zero, suc, ◌+◌, ℤ, pos, ◌+ℤ◌, ◌-ℤ◌, set}
use Rattle.std.specs.Int.Signed.{lt_z, quot_z}
use Rattle.integers.specs.Base.{floor_div, entry}
use Rattle.tables.specs.Constants.{stability_passes}
use Rattle.basicop.specs.Operators.{add16, sub16}
use Rattle.stability.specs.declared.Outcome.{Outcome}
use Rattle.stability.specs.declared.Outcome.TheVariants.{Untouched, Moved, Previous}
use Rattle.stability.specs.declared.Stabilised.{Stabilised}

-- ---- stabilising (lsp_stability; §2.6, step 3)

-- the gap between the LSPs at j and j + 1
abbrev pub gap : List ℤ → ℕ → ℤ
gap p j = entry p (j + 1) -ℤ entry p j

-- whether that gap is below the minimum m
abbrev pub short : ℤ → List ℤ → ℕ → Bool
short m p j = lt_z (gap p j) m

-- the floor of the average of the two
abbrev pub average : List ℤ → ℕ → ℤ
average p j = floor_div (entry p j +ℤ entry p (j + 1)) 2

-- both moved: to their average minus and plus half the minimum, saturating; half is truncated
abbrev pub spread : ℤ → List ℤ → ℕ → List ℤ
spread m p j = set (set p j (sub16 (average p j) (quot_z m (pos 2)))) (j + 1) (add16 (average p j) (quot_z m (pos 2)))

-- what a pass makes of p by its first n pairs, from low to high: a pair with a short gap is moved
unfoldable pub pass_to : ℤ → List ℤ → ℕ → List ℤ
pass_to m p zero = p
pass_to m p (suc j) = let q = pass_to m p j in cond (short m q j) (spread m q j) q

-- whether one of the tests t 0, t 1, …, t (n - 1) holds
unfoldable pub any_to : (ℕ → Bool) → ℕ → Bool
any_to t zero = false
any_to t (suc n) = any_to t n || t n

-- of the nine pairs: what a pass makes of them, whether it moves one, and whether one has a short gap
abbrev pub pass : ℤ → List ℤ → List ℤ
pass m p = pass_to m p 9

abbrev pub pass_moves : ℤ → List ℤ → Bool
pass_moves m p = any_to (λ j. short m (pass_to m p j) j) 9

abbrev pub any_short : ℤ → List ℤ → Bool
any_short m p = any_to (short m p) 9

-- p after up to n passes: one without moves ends it
unfoldable pub passes : ℤ → ℕ → List ℤ → List ℤ
passes m zero p = p
passes m (suc n) p = cond (pass_moves m p) (passes m n (pass m p)) p

-- what is said of candidates p (document 02, E2): untouched where the first pass moves none, and else moved, or, where a gap is short after the passes, given up for the previous LSPs
abbrev pub outcome_of : ℤ → List ℤ → Outcome
outcome_of m p = cond (pass_moves m p) (cond (any_short m (passes m stability_passes p)) Previous Moved) Untouched

-- up to ten passes, and what is then said
abbrev pub stabilised : ℤ → List ℤ → Stabilised
stabilised m p = record { lsps = passes m stability_passes p; outcome = outcome_of m p }

-- ---- the candidates, or else the previous LSPs (lsp_check_or_previous)

-- the LSPs that are used: those that passed, or the previous ones
abbrev pub lsps_used : Outcome → List ℤ → List ℤ → List ℤ
lsps_used Untouched lsps previous = lsps
lsps_used Moved lsps previous = lsps
lsps_used Previous lsps previous = previous

abbrev pub check_or_previous : ℤ → List ℤ → List ℤ → Stabilised
check_or_previous m candidates previous =
    let s = stabilised m candidates in record { lsps = lsps_used s.outcome s.lsps previous; outcome = s.outcome }

-- ---- the three outcomes as numbers, for who writes them down (docs/FORMAT.md)

abbrev pub outcome_code : Outcome → ℕ
outcome_code Untouched = 0
outcome_code Moved = 1
outcome_code Previous = 2
