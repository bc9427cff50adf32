use Rattle.std.proofs.Common.{rules, []}
use Rattle.integers.specs.FromFn.{from_fn_is}
use Rattle.lpc.proofs.frame_lpc_q13.Goals as goal

pub returns : goal.returns
returns c = from_fn_is _ _ _ _ (λ k y q lt r. search rules) [] c.from_fn.ensures.items
