-- Where the remainder leaves the word, the estimate is right.
use Rattle.std.proofs.Common.{◌≡◌, ℕ, ◌+◌, ◌-◌, ◌*◌, ◌/◌, ◌^◌, ◌≤◌, sym, ◌∙◌, subst, arith, rules, ltb-true}
use Rattle.quotient.proofs.Estimates.{Estimate, quotient_is, product_le, next, right}
use Rattle.quotient.proofs.corrected.Goals as goal

-- the quotient, from an estimate that leaves more than a digit
long_rest : (B u l v₁ v₀ q r : ℕ) → Estimate B u l v₁ v₀ q r → q ≤ r → v₀ ≤ B → q ≡ (u * B + l) / (v₁ * B + v₀)
long_rest B u l v₁ v₀ q r i h k = let w = right B u l v₁ v₀ q r i (product_le B q v₀ r l h k) in quotient_is _ _ _ _ w.0 w.1

pub returns-in_default : goal.returns-in_default
returns-in_default c =
    let d = c.args.d in
    let u = c.args.estimate.quotient * d.hi + c.args.estimate.remainder in
    let again = next (2 ^ 64) u c.args.l d.hi d.lo c.loop-d.q c.loop-d.r c.loop-d.invariant (omega (arith, ltb-true _ _ (sym c.less.ensures ∙ c.loop-d-test.true))) in
    let out : 2 ^ 64 ≤ c.loop-d.r + d.hi = omega (arith, c.in_default.ensures) in
    long_rest (2 ^ 64) u c.args.l d.hi d.lo (c.loop-d.q - 1) (c.loop-d.r + d.hi) again (omega arith) (search rules)

pub loop-d-preserved : goal.loop-d-preserved
loop-d-preserved c =
    let d = c.args.d in
    let u = c.args.estimate.quotient * d.hi + c.args.estimate.remainder in
    let again = next (2 ^ 64) u c.args.l d.hi d.lo c.loop-d.q c.loop-d.r c.loop-d.invariant (omega (arith, ltb-true _ _ (sym c.less.ensures ∙ c.loop-d-test.true))) in
    let sum : c.loop-d.r + d.hi ≡ c.in-Some.sum = search rules in
    subst (Estimate (2 ^ 64) u c.args.l d.hi d.lo (c.loop-d.q - 1)) sum again
