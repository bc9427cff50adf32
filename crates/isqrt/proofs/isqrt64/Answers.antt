use Rattle.std.proofs.Common.{ℕ, ◌<◌, ◌≤◌, rules, arith, sym, ap}
use lib.Count.{count_leading_zeros, leading_top}
use Rattle.isqrt.specs.Root.{root}
use Rattle.isqrt.proofs.Digits.{partial_same, partial_start, turn-fits, turn-next, turn-kept, partial_end}
use Rattle.isqrt.proofs.isqrt64.Goals as goal
use Rattle.isqrt.proofs.isqrt64.Goals.{then-t-x, else-t-x}

pub returns-then-v-eq0 : goal.returns-then-v-eq0
unfolding root
returns-then-v-eq0 c = sym (ap root c.if-v-eq0.true)

-- a number that is not 0 has a highest bit
zeros : (v : ℕ) → 0 < v → v < 18446744073709551616 → count_leading_zeros 64 v ≤ 63
zeros v h k = omega (arith, (leading_top 64 v h k).1)

pub overflow_mul-bit : goal.overflow_mul-bit
overflow_mul-bit c = omega (arith, zeros c.args.v (search rules) c.ranges.v.fits)

pub overflow_sub-bit : goal.overflow_sub-bit
overflow_sub-bit c = omega (arith, zeros c.args.v (search rules) c.ranges.v.fits)

pub overflow_shl-bit : goal.overflow_shl-bit
overflow_shl-bit c = omega (arith, zeros c.args.v (search rules) c.ranges.v.fits)

pub loop-bit-init : goal.loop-bit-init
loop-bit-init c =
    let top = leading_top 64 c.args.v (search rules) c.ranges.v.fits in
    partial_start c.args.v top.0 (count_leading_zeros 64 c.args.v) top.3 top.1

pub overflow_add-t : goal.overflow_add-t
overflow_add-t c = record { fits = turn-fits c.args.v c.loop-bit.x c.loop-bit.r c.loop-bit.bit c.loop-bit.invariant (omega arith) }

pub overflow_add-r : goal.overflow_add-r
overflow_add-r c = omega (arith, turn-fits c.args.v c.loop-bit.x c.loop-bit.r c.loop-bit.bit c.loop-bit.invariant (omega arith))

pub loop-bit-preserved : goal.loop-bit-preserved
loop-bit-preserved c =
    let v = c.args.v in
    let i = c.loop-bit in
    elim c.if-t-x.branch [
      | then-t-x w ↦ partial_same (turn-next v i.x i.r i.bit i.invariant (omega arith) (omega arith)) w.x-is w.r-is
      | else-t-x w ↦ partial_same (turn-kept v i.x i.r i.bit i.invariant (omega arith) (omega arith)) w.x-is w.r-is
    ]

pub overflow_cast-result : goal.overflow_cast-result
overflow_cast-result c = record {
  fits = (partial_end c.args.v c.loop-bit.x c.loop-bit.r c.loop-bit.bit c.loop-bit.invariant c.loop-bit-test.false).1;
}

pub returns : goal.returns
returns c = (partial_end c.args.v c.loop-bit.x c.loop-bit.r c.loop-bit.bit c.loop-bit.invariant c.loop-bit-test.false).0
