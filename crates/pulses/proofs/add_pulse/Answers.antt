use Rattle.std.proofs.Common.{arith}
use Rattle.pulses.proofs.Repeats.{repeating_start, sum_fits, repeating_sum, repeating_sum_end}
use Rattle.pulses.proofs.add_pulse.Goals as goal

pub loop-j-init : goal.loop-j-init
loop-j-init c = repeating_start c.told-v

pub overflow_add-v : goal.overflow_add-v
overflow_add-v c = sum_fits c.loop-j.invariant c.requires.all_within c.requires.within c.loop-j-test.true

pub loop-j-preserved : goal.loop-j-preserved
loop-j-preserved c = repeating_sum c.loop-j.invariant c.requires.all_within c.requires.within c.loop-j-test.true c.requires.step_nonzero

pub returns : goal.returns
returns c = repeating_sum_end c.loop-j.invariant c.requires.within c.loop-j-test.false

-- the next sample is past the last
pub returns-2 : goal.returns-2
returns-2 c =
    let next = repeating_sum c.loop-j.invariant c.requires.all_within c.requires.within c.loop-j-test.true c.requires.step_nonzero in
    repeating_sum_end next c.requires.within (omega arith)
