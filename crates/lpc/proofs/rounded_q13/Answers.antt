use Rattle.std.specs.Prelude.{◌^◌, ℤ, pos, ◌+ℤ◌, ◌-ℤ◌}
use Rattle.std.specs.Int.{w16, w32, w64}
use Rattle.std.proofs.Common.{ap, ◌∙◌, SFits}
use Rattle.std.proofs.Math.Dec.{lit≤}
use Rattle.integers.specs.Base.{floor_div, Within}
use Rattle.integers.specs.Bound.{within-add, within-sub, within-shr-by, within_weaken, within_num, fits-within}
use Rattle.integers.specs.Signed.{back}
use Rattle.integers.specs.Expression.{tree, is_arg, is-lit, is-add, is-sub, is-shr, is-cast}
use Rattle.basicop.specs.Operators.{word16}
use Rattle.lpc.proofs.rounded_q13.Goals as goal

module _ (a b c d : ℤ) (p : Within (2 ^ 37) a) (q : Within (2 ^ 37) b) (r : Within (2 ^ 37) c) (s : Within (2 ^ 37) d) where
  fits : let sum = a +ℤ b +ℤ c -ℤ d in
      SFits w64 (a +ℤ b) × SFits w64 (a +ℤ b +ℤ c) × SFits w64 sum × SFits w64 (pos 1024 -ℤ floor_div sum 2) × SFits w32 (floor_div (pos 1024 -ℤ floor_div sum 2) 2048)
  fits =
      let t = within-add p q in
      let u = within-add t r in
      let v = within-sub u s in
      let w = within-sub (within_num (pos 1024)) (within-shr-by (2 ^ 38) 2 (lit≤ tt) v) in
      (fits-within t tt, fits-within u tt, fits-within v tt, fits-within w tt, fits-within (within-shr-by (2 ^ 28) 2048 (lit≤ tt) (within_weaken w tt)) tt)

pub overflow_sub-sum-2 : goal.overflow_sub-sum-2
overflow_sub-sum-2 c =
    let f = fits c.args.p1 c.args.p0 c.args.q1 c.args.q0 c.requires.within c.requires.within_2 c.requires.within_3 c.requires.within_4 in
    search tree depth 12

pub overflow_cast-sum : goal.overflow_cast-sum
overflow_cast-sum c =
    let f = fits c.args.p1 c.args.p0 c.args.q1 c.args.q0 c.requires.within c.requires.within_2 c.requires.within_3 c.requires.within_4 in
    search tree depth 12

pub returns : goal.returns
returns c =
    let r = c.ranges in
    let f = fits c.args.p1 c.args.p0 c.args.q1 c.args.q0 c.requires.within c.requires.within_2 c.requires.within_3 c.requires.within_4 in
    let sum = is-sub (is-add (is-add (is_arg r.p1) (is_arg r.p0) f.0) (is_arg r.q1) f.1) (is_arg r.q0) f.2 in
    let all = is-cast (is-shr 2048 (is-sub (is-lit w64 1024) (is-shr 2 sum f.2) f.3) f.3) f.4 in
    back w16 c.saturate.type_inv (c.saturate.ensures ∙ ap word16 all.is)
