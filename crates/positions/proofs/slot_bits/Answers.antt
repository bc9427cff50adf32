use Rattle.std.proofs.Common.{sym}
use Rattle.positions.proofs.Packing.{marking_start, marking_next, marking_wrong, marking_end}
use Rattle.positions.proofs.slot_bits.Goals as goal

pub loop-left-init : goal.loop-left-init
loop-left-init c = marking_start c.args.slots.now

pub returns-then-not-may_follow : goal.returns-then-not-may_follow
returns-then-not-may_follow c = marking_wrong c.loop-left.invariant c.in-len1-up.len_at_least (sym c.if-not-may_follow.ensures)

pub loop-left-preserved : goal.loop-left-preserved
loop-left-preserved c = marking_next c.loop-left.invariant c.in-len1-up.len_at_least (sym c.if-not-may_follow.ensures)

pub returns : goal.returns
returns c = marking_end c.loop-left.invariant c.in_default.len_below
