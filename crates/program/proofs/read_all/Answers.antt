use Rattle.program.proofs.Reached.{reached-start, reached-more}
use Rattle.program.proofs.read_all.Goals as goal

pub loop-init : goal.loop-init
loop-init g c = reached-start c.args.given

pub loop-preserved : goal.loop-preserved
loop-preserved g c =
    reached-more c.args.given c.loop.stream c.in_ok-stream-in-Ok.stream _ c.loop.invariant c.in_ok-stream-in-Ok.ensures
