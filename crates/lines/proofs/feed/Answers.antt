use Rattle.std.proofs.Common.{◌∙◌}
use Rattle.lines.proofs.Feeding.{progress_ended, progress_going}
use Rattle.lines.proofs.feed.Goals as goal

pub returns : goal.returns
returns c =
    c.progress_by.ensures ∙ progress_ended c.args.given c.args.input.now c.in-Some.end c.part_reply-reply.result c.in-Some.ensures c.part_reply-reply.ensures

pub returns-in_default : goal.returns-in_default
returns-in_default c = progress_going c.args.given c.args.input.now c.append.result c.new.result c.in_default.ensures c.append.ensures c.new.ensures
