use Rattle.std.proofs.Common.{rules, ◌≡◌, ◌+◌, ◌-◌, pos, refl, ◌∙◌, arith, w16, to_z}
use Rattle.integers.specs.Base.{entry}
use Rattle.integers.specs.Fill.{fills_start, fills_next}
use Rattle.adaptive.specs.Adaptive.{delayed}
use Rattle.adaptive.proofs.Delays.{delayed-first, delayed-again}
use Rattle.adaptive.proofs.Fill.{fills_at}
use Rattle.adaptive.proofs.delayed_samples.Goals as goal
use Rattle.adaptive.proofs.delayed_samples.Goals.{then-m-l, else-m-l}

pub loop-m-init : goal.loop-m-init
loop-m-init c = fills_start refl

pub loop-m-preserved : goal.loop-m-preserved
loop-m-preserved c =
    let x = c.args.signal.now in
    let p = c.args.p in
    let l = c.args.l in
    let m = c.loop-m.m in
    let read : to_z w16 c.if-m-l.e-bits ≡ delayed x p l m =
    elim c.if-m-l.branch [
      | then-m-l w ↦
          let is : to_z w16 c.if-m-l.e-bits ≡ entry x (p - (l + 2) + m) = search rules in
          is ∙ delayed-first x p l m (omega arith) w.if-m-l.true
      | else-m-l w ↦
          let is : to_z w16 c.if-m-l.e-bits ≡ entry c.loop-m.e (m - l) = search rules in
          is ∙ fills_at c.loop-m.invariant (m - l) (pos 0) (omega arith) ∙ delayed-again x p l m w.if-m-l.false
    ]
    in
    fills_next c.loop-m.invariant c.loop-m-test.true read
