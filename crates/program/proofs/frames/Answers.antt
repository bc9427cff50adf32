use Rattle.std.proofs.Common.{◌≡◌, List, ℕ, [], sym, ap, ◌∙◌}
use Rattle.lines.specs.Stream.{stream_after, finished}
use Rattle.lines.specs.declared.Stream.{Stream}
use Rattle.program.proofs.Reached.{none_printed}
use Rattle.program.proofs.frames.Goals as goal

pub returns-in-Ok : goal.returns-in-Ok
returns-in-Ok g c =
    let e : (input : List ℕ) × (c.in-Ok.stream ≡ stream_after c.start.result input) = c.in-Ok.ensures in
    (e.0, c.close.ensures ∙ ap (λ (s : Stream). (finished s).stream.tallies) (e.1 ∙ ap (λ (s : Stream). stream_after s e.0) c.start.ensures))

pub returns : goal.returns
returns g c = ([], c.no_tallies.ensures ∙ sym none_printed)
