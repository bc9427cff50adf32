use Rattle.std.proofs.Common.{rules}
use Rattle.refusals.specs.Refusals.{wrong_signs_in}
use Rattle.refusals.proofs.any_signs_wrong.Goals as goal

pub returns : goal.returns
returns c = c.in_any_high.ensures (wrong_signs_in c.args.fields.now) (λ s r p. search rules)
