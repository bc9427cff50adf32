-- The loop over the passes: what is left of them, and what was moved before.
use mathlib.Core.Path.{◌≡◌, refl, sym, ap, ◌∙◌, subst}
use mathlib.Core.Bool.{Bool, true, false, cond}
use mathlib.Core.List.{List}
use Prim.Native.Nat.{ℕ, zero, suc, ◌+◌, ◌-◌, ◌<◌, ◌≤◌}
use native.Mathlib.Omega.{arith}
use borrow.Author.Tests.{eqb-true, eqb-false}
use Rattle.std.specs.Prelude.{Some, None}
use lib.Dec.{eqb}
use lib.IntN.{ℤ}
use Rattle.tables.specs.Constants.{stability_passes}
use Rattle.stability.specs.declared.Outcome.TheVariants.{Untouched, Moved, Previous}
use Rattle.stability.specs.Stability.{pass, pass_moves, any_short, passes, outcome_of, stabilised}
use Rattle.stability.proofs.Passes.{turn, no_turn}
use Rattle.stability.proofs.Gaps.{unmoved_spaced, spaced_same, outcome_is}

-- ---- what a pass hands back

pub none_moved : (b : Bool) (y : List ℤ) → None ≡ cond b (Some y) None → b ≡ false
none_moved true y e = cc
none_moved false y e = refl

pub some_moved : (b : Bool) (x y : List ℤ) → Some x ≡ cond b (Some y) None → (b ≡ true) × (x ≡ y)
some_moved true x y e = (refl, cc)
some_moved false x y e = cc

-- ---- the turns

module _ (m : ℤ) (p : List ℤ) where
  -- q is what n passes, which all moved some, made of p
  pub record Turn (n : ℕ) (q : List ℤ) : Type 0 where
    pub left : passes m stability_passes p ≡ passes m (stability_passes - n) q
    pub first : n ≡ 0 → q ≡ p
    pub later : 0 < n → pass_moves m p ≡ true

  pub turn-start : Turn 0 p
  turn-start = record { left = refl; first = λ e. refl; later = λ h. absurd (let z : ⊥ = omega arith in z) }

  -- the first of them moved some
  began : (n : ℕ) (q : List ℤ) → Turn n q → pass_moves m q ≡ true → pass_moves m p ≡ true
  began zero q t e = subst (λ (x : List ℤ). pass_moves m x ≡ true) (t.first refl) e
  began (suc n) q t e = t.later (omega arith)

  module _ (n : ℕ) (q : List ℤ) (t : Turn n q) where
    pub turn-next : n < stability_passes → pass_moves m q ≡ true → Turn (n + 1) (pass m q)
    turn-next h e = record {
      left = t.left ∙ turn m stability_passes n q h ∙ rw e;
      first = λ z. absurd (let y : ⊥ = omega arith in y);
      later = λ z. began n q t e;
    }

    -- ---- the ways out

    -- a pass without moves
    module _ (h : n < stability_passes) (e : pass_moves m q ≡ false) where
      all_passes : passes m stability_passes p ≡ q
      all_passes = t.left ∙ turn m stability_passes n q h ∙ rw e

      met : any_short m (passes m stability_passes p) ≡ false
      met = ap (any_short m) all_passes ∙ unmoved_spaced m q e

      outcome_still : cond (eqb n 0) Untouched Moved ≡ outcome_of m p
      outcome_still = by (eqb n 0) refl
        where
          by : (b : Bool) → eqb n 0 ≡ b → cond b Untouched Moved ≡ outcome_of m p
          by true z = sym (outcome_is m p (ap (pass_moves m) (sym (t.first (eqb-true n 0 z))) ∙ e) refl)
          by false z = sym (outcome_is m p (t.later (let k = eqb-false n 0 z in omega (arith, k))) met)

      pub unmoved_end : record { lsps = q; outcome = cond (eqb n 0) Untouched Moved } ≡ stabilised m p
      unmoved_end = λ i. record { lsps = sym all_passes i; outcome = outcome_still i }

      -- and what that pass made
      pub still_end : record { lsps = pass m q; outcome = cond (eqb n 0) Untouched Moved } ≡ stabilised m p
      still_end = λ i. record { lsps = (spaced_same m q (unmoved_spaced m q e) ∙ sym all_passes) i; outcome = outcome_still i }

    -- the last of the passes
    pub last_end : {b : Bool} → stability_passes ≤ n → any_short m q ≡ b → record { lsps = q; outcome = cond b Previous Moved } ≡ stabilised m p
    last_end h e =
        let all : passes m stability_passes p ≡ q = t.left ∙ no_turn m stability_passes n q h in
        let moves = t.later (omega arith) in
        λ i. record { lsps = sym all i; outcome = sym (outcome_is m p moves (ap (any_short m) all ∙ e)) i }
