use Rattle.std.proofs.Common.{◌≡◌, sym, ◌∙◌, rules, to_z, of_z}
use mir.Syntax.{w16}
use Rattle.stability.specs.Stability.{short}
use Rattle.stability.proofs.Passes.{passed-start, passed-moved, passed-kept}
use Rattle.stability.proofs.one_pass.Goals as goal
use Rattle.stability.proofs.one_pass.Goals.{then-is_short, else-is_short}

pub loop-j-init : goal.loop-j-init
loop-j-init c = passed-start _ _

pub loop-j-preserved : goal.loop-j-preserved
loop-j-preserved c =
    let told : c.is_short.result ≡ short (to_z w16 (of_z w16 c.args.minimum)) c.loop-j.lsps c.loop-j.j = search rules in
    elim c.if-is_short.branch [
      | then-is_short w ↦ rw (w.lsps-is, w.moved-is, w.moved_pair-lsps.ensures) (passed-moved _ _ c.loop-j.invariant (sym told ∙ w.if-is_short.true))
      | else-is_short w ↦ rw (w.lsps-is, w.moved-is) (passed-kept _ _ c.loop-j.invariant (sym told ∙ w.if-is_short.false))
    ]
