use Rattle.digits.proofs.Reading.{Reading}
use Rattle.digits.proofs.digit_pairs.Given as goal

abbrev pub invariant-loop-i : goal.invariant-loop-i
invariant-loop-i l = Reading l.fn.text l.read l.are_pairs l.i
