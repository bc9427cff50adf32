use Rattle.lines.proofs.Texts.{fresh_is}
use Rattle.lines.proofs.start.Goals as goal

pub returns : goal.returns
returns c = fresh_is c.fresh.result c.blank_line.result c.no_tallies.result c.fresh.ensures c.blank_line.ensures c.no_tallies.ensures
