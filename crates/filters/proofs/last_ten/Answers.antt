use Rattle.std.proofs.Common.{rules, pos}
use Rattle.integers.specs.FromFn.{from_fn_is}
use Rattle.filters.specs.Filters.{last_ten}
use Rattle.filters.proofs.last_ten.Goals as goal

pub returns : goal.returns
unfolding last_ten
returns c = from_fn_is _ _ _ _ (λ j y q lt k. search rules) (pos 0) c.from_fn.ensures.items
