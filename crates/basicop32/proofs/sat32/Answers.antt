use Rattle.std.specs.Int.{w32, w64}
use Rattle.integers.specs.Saturation.{saturated-fits, clamp-is}
use Rattle.integers.specs.Expression.{is-result, is-cast}
use Rattle.basicop32.proofs.sat32.Goals as goal

pub returns : goal.returns
returns c =
    let nearest = clamp-is 2147483647 c.ranges.x c.clamp.ensures.value in
    (is-cast (is-result w64 c.clamp.result c.clamp.type_inv nearest) (saturated-fits {w = w32} 2147483647 c.args.x tt)).is
