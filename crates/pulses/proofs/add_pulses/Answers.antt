use Rattle.std.proofs.Common.{◌≡◌, ◌-◌, ◌/◌, ◌^◌, ◌∙◌, arith}
use Rattle.pulses.proofs.Places.{grid_bit}
use Rattle.pulses.proofs.Sizes.{size-within, amp-within, amp_is}
use Rattle.pulses.proofs.Placing.{half, placing_start, placing_left, placing_within, placing_hit, placing_miss, placing_end}
use Rattle.pulses.proofs.add_pulses.Goals as goal
use Rattle.pulses.proofs.add_pulses.Goals.{then-found-slot-eq1, else-found-slot-eq1}

pub loop-slot-init : goal.loop-slot-init
loop-slot-init c =
    let all : c.args.found / 2 ^ 0 ≡ c.args.found = omega arith in
    placing_start c.requires.code_bound (all ∙ c.requires.found_value) c.pulses-left.ensures

pub overflow_sub-left : goal.overflow_sub-left
overflow_sub-left c = (placing_left c.requires.code_bound c.loop-slot.invariant c.if-found-slot-eq1.true).0

pub with_sign-amp-requires : goal.with_sign-amp-requires
with_sign-amp-requires c = record {
  within = size-within c.args.d c.doubled_gain-size.ensures;
  b_bound = omega (arith, (placing_left c.requires.code_bound c.loop-slot.invariant c.if-found-slot-eq1.true).1);
}

pub add_pulse-requires-clause-all_within : goal.add_pulse-requires-clause-all_within
add_pulse-requires-clause-all_within c = placing_within c.requires.code_bound c.loop-slot.invariant c.if-found-slot-eq1.true

pub add_pulse-requires-clause-within : goal.add_pulse-requires-clause-within
add_pulse-requires-clause-within c = amp-within c.args.d c.doubled_gain-size.ensures (c.loop-slot.left - 1) c.with_sign-amp.ensures

pub loop-slot-preserved : goal.loop-slot-preserved
loop-slot-preserved c =
    let h = c.requires.code_bound in
    let s = c.loop-slot.invariant in
    let later = half c.args.found c.loop-slot.slot in
    let grid = c.from-grid.ensures ∙ grid_bit c.args.d.grid in
    elim c.if-found-slot-eq1.branch [
      | then-found-slot-eq1 w ↦
          let amp = amp_is c.args.d c.doubled_gain-size.ensures (c.loop-slot.left - 1) w.with_sign-amp.ensures in
          rw (w.v-is, w.left-is, later) (placing_hit h s w.if-found-slot-eq1.true c.pulse_step-step.ensures grid amp w.add_pulse.ensures)
      | else-found-slot-eq1 w ↦ rw (w.v-is, w.left-is, later) (placing_miss h s w.if-found-slot-eq1.false)
    ]

pub returns : goal.returns
returns c = placing_end c.requires.code_bound c.loop-slot.invariant c.loop-slot-test.false
