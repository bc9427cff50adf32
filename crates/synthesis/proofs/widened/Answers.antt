use Rattle.std.proofs.Common.{rules, pos}
use Rattle.integers.specs.FromFn.{map_same}
use Rattle.synthesis.proofs.widened.Goals as goal

pub returns : goal.returns
returns c = map_same _ (λ x y p q k. search rules) (pos 0) (search rules) c.map.ensures.items
