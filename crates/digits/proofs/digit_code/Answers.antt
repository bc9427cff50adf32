use Rattle.std.proofs.Common.{ap, ◌∙◌, List, ℕ, slice_index_or, arith}
use Rattle.integers.specs.Fill.{tabulate-at}
use Rattle.digits.specs.Digits.{digit_code}
use Rattle.digits.proofs.digit_code.Goals as goal

pub returns : goal.returns
returns c =
    ap (λ (l : List ℕ). slice_index_or l c.from.result 0) c.digit_codes.ensures ∙ tabulate-at digit_code 256 c.from.result 0 (omega arith) ∙ ap digit_code c.from.ensures
