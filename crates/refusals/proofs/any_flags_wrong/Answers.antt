use Rattle.std.proofs.Common.{rules}
use Rattle.refusals.specs.Refusals.{wrong_flags_in}
use Rattle.refusals.proofs.any_flags_wrong.Goals as goal

pub returns : goal.returns
returns c = c.in_any_high.ensures (wrong_flags_in c.args.fields.now) (λ s r p. search rules)
