use Rattle.std.proofs.Common.{arith}
use Rattle.positions.proofs.Packing.{packing_start, packing_some, packing-most, packing_next, packing_past, packing_end}
use Rattle.positions.proofs.code_of.Goals as goal

pub loop-slot-init : goal.loop-slot-init
loop-slot-init c = packing_start c.args.slots.now c.requires.counted c.requires.ascends c.requires.found_value

pub comb_weight-requires-clause-wanted_nonzero : goal.comb_weight-requires-clause-wanted_nonzero
comb_weight-requires-clause-wanted_nonzero c = packing_some c.loop-slot.invariant c.if-rest-eq0.false

pub loop-slot-preserved : goal.loop-slot-preserved
loop-slot-preserved c =
    let s = c.loop-slot.invariant in packing_next s c.loop-slot-test.true (packing_some s c.if-rest-eq0.false) c.comb_weight.ensures

pub overflow_add-code : goal.overflow_add-code
overflow_add-code c =
    let s = c.loop-slot.invariant in
    omega
    (arith, packing-most s c.loop-slot-test.true (packing_some s c.if-rest-eq0.false) c.comb_weight.ensures c.requires.counted c.requires.ascends)

pub overflow_sub-wanted : goal.overflow_sub-wanted
overflow_sub-wanted c = omega (arith, packing_some c.loop-slot.invariant c.if-rest-eq0.false)

pub returns-after-loop-slot : goal.returns-after-loop-slot
returns-after-loop-slot c = packing_past c.loop-slot.invariant c.loop-slot-test.false

pub returns-then-rest-eq0 : goal.returns-then-rest-eq0
returns-then-rest-eq0 c = packing_end c.loop-slot.invariant c.if-rest-eq0.true
