use Rattle.std.proofs.Common.{rules, pos}
use Rattle.integers.specs.Base.{entry}
use Rattle.integers.specs.FromFn.{from_fn_is}
use Rattle.lpc.specs.Lpc.{times_factor}
use Rattle.lpc.proofs.times_factor.Goals as goal

pub returns : goal.returns
returns c = from_fn_is _ _ (times_factor (entry c.args.p) c.args.c) 11 (λ i y q lt k. search rules) (pos 0) c.from_fn.ensures.items
