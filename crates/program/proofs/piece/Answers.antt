use Rattle.std.proofs.Common.{sym, ap, ◌∙◌, ◌-◌, length, drop, length-drop, arith}
use lib.Seq.{take_all}
use Rattle.lines.specs.Stream.{stream_after}
use Rattle.lines.proofs.Cuts.{progress_step, progress_used, nothing-carried}
use Rattle.program.proofs.piece.Goals as goal

pub slice_bounds-rest-count : goal.slice_bounds-rest-count
slice_bounds-rest-count c = (progress_used c.loop-rest.stream c.loop-rest.rest.now c.feed-f.result c.feed-f.ensures).0

pub slice_bounds-rest-start : goal.slice_bounds-rest-start
slice_bounds-rest-start c = (progress_used c.loop-rest.stream c.loop-rest.rest.now c.feed-f.result c.feed-f.ensures).0

pub loop-rest-smaller : goal.loop-rest-smaller
loop-rest-smaller c =
    let rest = c.loop-rest.rest.now in
    let u = progress_used c.loop-rest.stream rest c.feed-f.result c.feed-f.ensures in
    rw (take_all (length rest - c.feed-f.result.used) (drop c.feed-f.result.used rest) (omega (arith, length-drop c.feed-f.result.used rest)))
    (omega (arith, u.0, u.1, length-drop c.feed-f.result.used rest))

pub loop-rest-preserved : goal.loop-rest-preserved
loop-rest-preserved c =
    let rest = c.loop-rest.rest.now in
    c.loop-rest.invariant
    ∙ progress_step c.loop-rest.stream rest c.feed-f.result c.feed-f.ensures
    ∙ ap (stream_after c.feed-f.result.stream)
    (sym (take_all (length rest - c.feed-f.result.used) (drop c.feed-f.result.used rest) (omega (arith, length-drop c.feed-f.result.used rest))))

pub returns : goal.returns
returns c = sym (c.loop-rest.invariant ∙ nothing-carried c.loop-rest.stream c.loop-rest.rest.now (omega arith))
