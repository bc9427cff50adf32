use Rattle.std.specs.Int.{w16, w64}
use Rattle.integers.specs.Saturation.{saturated-fits, clamp-is}
use Rattle.integers.specs.Expression.{is-result, is-cast}
use Rattle.filters.proofs.limited_sample.Goals as goal

pub returns : goal.returns
returns c =
    let nearest = clamp-is 32767 c.ranges.q c.clamp.ensures.value in
    (is-cast (is-result w64 c.clamp.result c.clamp.type_inv nearest) (saturated-fits {w = w16} 32767 c.args.q tt)).is
