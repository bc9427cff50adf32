use Rattle.std.proofs.Common.{sym, ◌∙◌}
use Rattle.lines.proofs.Kept.{whole_reply}
use Rattle.lines.proofs.part_reply.Goals as goal

pub returns : goal.returns
returns c = c.text_reply.ensures ∙ whole_reply c.args.line.now c.args.part.now c.args.given.now (sym c.if-is_begun.ensures)
