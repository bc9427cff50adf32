-- What the three outcomes say of gaps (document 02, E2; proofs/Gaps.antt), of candidates p at minimum m with previous LSPs v.
use Rattle.std.specs.Prelude.{◌≡◌, true, List, ℕ, ◌<◌, ◌-◌, ℤ, ◌≤ℤ◌}
use Rattle.tables.specs.Constants.{stability_passes}
use Rattle.stability.specs.Stability.{gap, short, pass_moves, passes, check_or_previous}
use Rattle.stability.specs.declared.Outcome.TheVariants.{Untouched, Moved, Previous}

-- each of the nine gaps is at least m
pub record Spaced (m : ℤ) (p : List ℤ) : Type 0 where
  pub at : (j : ℕ) → j < 9 → m ≤ℤ gap p j

-- one of them is below m
pub record Short (m : ℤ) (p : List ℤ) : Type 0 where
  pub place : ℕ
  pub inside : place < 9
  pub is-short : short m p place ≡ true

-- untouched exactly where every gap of the candidates is at or above the minimum, and then the LSPs are the candidates
abbrev pub UntouchedSpaced : Type 0
UntouchedSpaced =
    (m : ℤ) (p v : List ℤ) → let s = check_or_previous m p v in
    (s.outcome ≡ Untouched → Spaced m p × (s.lsps ≡ p)) × (Spaced m p → s.outcome ≡ Untouched)

-- moved: the LSPs have their gaps, and are not the candidates
abbrev pub MovedSpaced : Type 0
MovedSpaced =
    (m : ℤ) (p v : List ℤ) → let s = check_or_previous m p v in
    s.outcome ≡ Moved → Spaced m s.lsps × (s.lsps ≡ p → ⊥)

-- the previous LSPs are used exactly where a gap is still short after the passes
abbrev pub PreviousShort : Type 0
PreviousShort =
    (m : ℤ) (p v : List ℤ) → let s = check_or_previous m p v in
    (s.outcome ≡ Previous → Short m (passes m stability_passes p) × (s.lsps ≡ v))
    × (Short m (passes m stability_passes p) → s.outcome ≡ Previous)

-- candidates that need all passes, of which the last still moves some, and then meet the gaps are moved
abbrev pub AllPassesMoved : Type 0
AllPassesMoved =
    (m : ℤ) (p v : List ℤ) → pass_moves m (passes m (stability_passes - 1) p) ≡ true → Spaced m (passes m stability_passes p)
    → (check_or_previous m p v).outcome ≡ Moved
