use Rattle.std.proofs.Common.{◌+◌, ◌*◌, ◌^◌, pos, ◌+ℤ◌, lit≤, SFits, w32, w64}
use Rattle.integers.specs.Base.{floor_div, Within}
use Rattle.integers.specs.Bound.{within-add, within_num, within_weaken, within-shr-by, fits-within}
use Rattle.integers.specs.Expression.{is_arg, is-lit, is-add, is-shr, is-cast}
use Rattle.adaptive.proofs.rounded_tap_sum.Goals as goal

-- the sum with its half is below 2 ^ 33, and the quotient below 2 ^ 19
pub returns : goal.returns
returns c =
    let z = c.args.sum +ℤ pos 8192 in
    let small : Within (5 * 2 ^ 30 + 8192) z = within-add c.requires (within_num (pos 8192)) in
    let sum_fits : SFits w64 z = fits-within small tt in
    let fits : SFits w32 (floor_div z 16384) = fits-within (within-shr-by (2 ^ 19) 16384 (lit≤ tt) (within_weaken small tt)) tt in
    (is-cast (is-shr 16384 (is-add (is_arg c.ranges.sum) (is-lit w64 8192) sum_fits) sum_fits) fits).is
