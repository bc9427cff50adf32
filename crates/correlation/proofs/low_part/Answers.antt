use Rattle.std.proofs.Common.{ℤ, pos, ◌*ℤ◌, SFits}
use Rattle.std.specs.Int.{w32}
use lib.Dec.{lit≤}
use Rattle.integers.specs.Bound.{fits-within}
use Rattle.integers.specs.Linear.{line, line-mul, line-shr, line-fits, fits-between}
use Rattle.integers.specs.Expression.{is_arg, is-lit, is-shr, is_mul, is-sub, need_sub}
use Rattle.correlation.proofs.Parts.{high, low-within}
use Rattle.correlation.proofs.low_part.Goals as goal

-- the multiple of 65536 is no further from 0 than the number's least of that type
multiple-fits : (z : ℤ) → SFits w32 z → SFits w32 (high z *ℤ pos 65536)
multiple-fits z f =
    let m = high z *ℤ pos 65536 in
    let floor = line-shr z 65536 (lit≤ tt) in
    let multiple = line-mul (high z) 65536 in
    let bounds = line-fits z f in
    fits-between 2147483647 m (omega line) (omega line) tt

pub overflow_sub-result : goal.overflow_sub-result
overflow_sub-result c =
    let h = is-shr 65536 (is_arg c.ranges.p) c.ranges.p in
    need_sub (is_arg c.ranges.p) (is_mul h (is-lit w32 65536) (multiple-fits c.args.p c.ranges.p)) (fits-within (low-within c.args.p) tt)

pub returns : goal.returns
returns c =
    let h = is-shr 65536 (is_arg c.ranges.p) c.ranges.p in
    (is-sub (is_arg c.ranges.p) (is_mul h (is-lit w32 65536) (multiple-fits c.args.p c.ranges.p)) (fits-within (low-within c.args.p) tt)).is
