use Rattle.std.proofs.Common.{◌<◌, ◌^◌, sym, subst, rules, w16, w32, to_z, of_z}
use Rattle.std.specs.Int.Signed.{mag}
use Rattle.integers.specs.Base.{Is, Within, entry}
use Rattle.integers.specs.Bound.{within-mag, within-mul, fits-within}
use Rattle.integers.specs.Expression.{is-mag, is_mul, within-is}
use Rattle.lags.proofs.square_at.Goals as goal

pub returns-then-i-x-clause-upper_bound : goal.returns-then-i-x-clause-upper_bound
returns-then-i-x-clause-upper_bound c =
    let v = c.from-v.result in
    let fits : mag (to_z w16 (of_z w16 (entry c.args.x.now c.args.i))) < 2 ^ 15 = search rules in
    let small : Within (2 ^ 15) v = subst (Within (2 ^ 15)) (sym c.from-v.ensures) (within-mag w16 (to_z w16 (of_z w16 (entry c.args.x.now c.args.i))) fits) in
    let i : Is w32 (of_z w32 v) v = is-mag v c.from-v.type_inv in
    (within-is (is_mul i i (fits-within (within-mul small small) tt)) (within-mul small small)).within
