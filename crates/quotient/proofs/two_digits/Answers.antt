-- Each quotient is one digit.
use Rattle.std.proofs.Common.{◌/◌, ◌%◌, ◌^◌, ◌<◌, arith}
use Rattle.quotient.proofs.Estimates.{digit_lt}
use Rattle.quotient.proofs.two_digits.Goals as goal

pub overflow_add-result : goal.overflow_add-result
overflow_add-result c =
    let v = c.args.v in
    let a : c.digit-a.result.quotient < 2 ^ 32 = digit_lt (2 ^ 32) c.args.n.hi (c.args.n.lo / 2 ^ 32) v c.digit-a.result.quotient c.requires.1 (omega arith) (omega arith) in
    let b : c.digit-b.result.quotient < 2 ^ 32 = digit_lt (2 ^ 32) c.digit-a.result.remainder (c.args.n.lo % 2 ^ 32) v c.digit-b.result.quotient (omega arith) (omega arith) (omega arith) in
    omega arith
