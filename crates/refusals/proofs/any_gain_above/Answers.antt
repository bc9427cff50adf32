use Rattle.std.proofs.Common.{rules, ltb}
use Rattle.tables.specs.Constants.{gain_index_max}
use Rattle.record.specs.Record.{gain_index_of}
use Rattle.refusals.proofs.any_gain_above.Goals as goal

pub returns : goal.returns
returns c = c.in_any.ensures (λ s. ltb gain_index_max (gain_index_of c.args.rate c.args.fields.now s)) (λ s r p. search rules)
