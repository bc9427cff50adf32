use Rattle.std.specs.Int.{w16, w32}
use Rattle.integers.specs.Saturation.{saturated-fits, clamp-is}
use Rattle.integers.specs.Expression.{is-result, is-cast}
use Rattle.basicop.proofs.saturate.Goals as goal

pub returns : goal.returns
returns c =
    let nearest = clamp-is 32767 c.ranges.x c.clamp.ensures.value in
    (is-cast (is-result w32 c.clamp.result c.clamp.type_inv nearest) (saturated-fits {w = w16} 32767 c.args.x tt)).is
