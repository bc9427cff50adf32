use Rattle.std.proofs.Common.{sym, ◌∙◌, ap}
use Rattle.std.specs.Prelude.{Ok}
use Rattle.positions.specs.Packing.{number_of_packed}
use Rattle.positions.proofs.Packing.{packed-count, packed-slot, packed-code, packed-number}
use Rattle.positions.proofs.fcbk_pack_positions.Goals as goal

pub returns-then-not-is_count-clause-answer : goal.returns-then-not-is_count-clause-answer
returns-then-not-is_count-clause-answer c = sym (packed-count c.args.slots.now (sym c.if-not-is_count.ensures))

pub returns-then-not-is_count-clause-number : goal.returns-then-not-is_count-clause-number
returns-then-not-is_count-clause-number c = ap number_of_packed (returns-then-not-is_count-clause-answer c) ∙ packed-number c.args.slots.now

pub returns-in_default-clause-answer : goal.returns-in_default-clause-answer
returns-in_default-clause-answer c = sym (packed-slot c.args.slots.now (sym c.if-not-is_count.ensures) c.in_default.ensures)

pub returns-in_default-clause-number : goal.returns-in_default-clause-number
returns-in_default-clause-number c = ap number_of_packed (returns-in_default-clause-answer c) ∙ packed-number c.args.slots.now

pub returns-clause-answer : goal.returns-clause-answer
returns-clause-answer c = ap Ok c.code_of.ensures ∙ sym (packed-code c.args.slots.now (sym c.if-not-is_count.ensures) c.in-Some.ensures.0)

pub returns-clause-number : goal.returns-clause-number
returns-clause-number c = ap number_of_packed (returns-clause-answer c) ∙ packed-number c.args.slots.now
