use Rattle.std.proofs.Common.{sym}
use Rattle.lines.proofs.Texts.{ended_is, finish_begun, finish_none}
use Rattle.lines.proofs.finish.Goals as goal

pub returns-then-is_begun : goal.returns-then-is_begun
returns-then-is_begun c =
    finish_begun c.args.given c.progress_by.result (sym c.if-is_begun.ensures)
    (ended_is c.args.given c.line_reply.result c.progress_by.result c.line_reply.ensures c.progress_by.ensures)

pub returns : goal.returns
returns c = finish_none c.args.given c.new.result (sym c.if-is_begun.ensures) c.new.ensures
