use Rattle.std.proofs.Common.{[], rules}
use Rattle.integers.specs.FromFn.{from_fn_is}
use Rattle.digits.proofs.frame_digits.Goals as goal

pub returns : goal.returns
returns c = from_fn_is _ _ _ _ (λ i y q lt k. search rules) [] c.from_fn.ensures.items
