use Rattle.std.proofs.Common.{◌<◌, sym, arith}
use Rattle.positions.proofs.Bits.{positions-none, walking_start, walking_hit, walking_miss, walking_end, walking_done}
use Rattle.positions.proofs.fcbk_unpk_positions.Goals as goal
use Rattle.positions.proofs.fcbk_unpk_positions.Goals.{then-rest-weight, else-rest-weight}

pub returns-then-code-limit : goal.returns-then-code-limit
returns-then-code-limit c = sym (positions-none c.args.n c.args.code (omega (arith, c.limit.ensures)))

pub loop-slot-init : goal.loop-slot-init
loop-slot-init c = walking_start c.pulses-wanted.ensures

pub loop-slot-preserved : goal.loop-slot-preserved
loop-slot-preserved c =
    let s = c.loop-slot.invariant in
    let below = c.loop-slot-test.true in
    let some : 0 < c.loop-slot.wanted = omega arith in
    let weight = c.comb_weight-weight.ensures in
    elim c.if-rest-weight.branch [
      | then-rest-weight w ↦ rw (w.found-is, w.wanted-is, w.rest-is) (walking_hit s below some weight (omega arith))
      | else-rest-weight w ↦ rw (w.found-is, w.wanted-is, w.rest-is) (walking_miss s below some weight (omega arith))
    ]

pub returns-after-loop-slot : goal.returns-after-loop-slot
returns-after-loop-slot c = walking_end c.loop-slot.invariant (omega (arith, c.limit.ensures)) c.loop-slot-test.false

pub returns-then-wanted-eq0 : goal.returns-then-wanted-eq0
returns-then-wanted-eq0 c = walking_done c.loop-slot.invariant (omega (arith, c.limit.ensures)) c.if-wanted-eq0.true
