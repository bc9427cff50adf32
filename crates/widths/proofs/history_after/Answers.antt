use Rattle.std.proofs.Common.{rules, pos}
use Rattle.integers.specs.FromFn.{from_fn_is}
use Rattle.widths.proofs.history_after.Goals as goal

pub returns : goal.returns
returns c = from_fn_is _ _ _ _ (λ i y q lt k. search rules) (pos 0) c.from_fn.ensures.items
