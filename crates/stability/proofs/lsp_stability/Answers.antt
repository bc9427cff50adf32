use Rattle.std.proofs.Common.{sym, ap, ◌∙◌, ℤ, to_z-of_z, arith}
use Rattle.stability.specs.Stability.{stabilised}
use Rattle.stability.proofs.Turns.{turn-next, unmoved_end, last_end, none_moved, some_moved}
use Rattle.stability.proofs.lsp_stability.Goals as goal

pub loop-n-preserved : goal.loop-n-preserved
loop-n-preserved c =
    let s = some_moved _ _ _ c.in-Some.ensures in
    rw s.1 (turn-next _ _ _ _ c.loop-n.invariant (omega arith) s.0)

pub returns-in_default : goal.returns-in_default
returns-in_default c =
    rw c.outcome_after.ensures (unmoved_end _ _ _ _ c.loop-n.invariant (omega arith) (none_moved _ _ c.in_default.ensures))
    ∙ ap (λ (m : ℤ). stabilised m c.args.p) (to_z-of_z c.ranges.minimum)

pub returns-then-any_short : goal.returns-then-any_short
returns-then-any_short c =
    last_end _ _ _ _ c.loop-n.invariant (omega arith) (sym c.any_short.ensures ∙ c.if-any_short.true)
    ∙ ap (λ (m : ℤ). stabilised m c.args.p) (to_z-of_z c.ranges.minimum)

pub returns : goal.returns
returns c =
    last_end _ _ _ _ c.loop-n.invariant (omega arith) (sym c.any_short.ensures ∙ c.if-any_short.false)
    ∙ ap (λ (m : ℤ). stabilised m c.args.p) (to_z-of_z c.ranges.minimum)
