use Rattle.std.proofs.Common.{rules, pos}
use Rattle.integers.specs.FromFn.{from_fn_is}
use Rattle.formant.proofs.Zeros.{memory_placed, input_placed}
use Rattle.formant.proofs.input_line.Goals as goal

pub returns : goal.returns
returns c = from_fn_is _ _ _ _ (λ m v q lt k. search (rules, memory_placed, input_placed)) (pos 0) c.from_fn.ensures.items
