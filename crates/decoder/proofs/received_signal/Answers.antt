use Rattle.std.proofs.Common.{arith, ◌∙◌, refl, sym}
use Rattle.erasure.proofs.Frames.{number, turns, turns_next, four_turns}
use Rattle.decoder.specs.Frame.{received_to}
use Rattle.decoder.proofs.received_signal.Goals as goal

pub loop-s-init : goal.loop-s-init
unfolding turns
loop-s-init c b e = refl

pub loop-s-preserved : goal.loop-s-preserved
loop-s-preserved c b e =
    let n = c.loop-s.s-index in
    c.received_subframe-next.ensures b e ∙ (λ i. received_to (b (number n)) (c.loop-s.invariant b e i) (number n)) ∙ sym (turns_next (λ x k. received_to (b k) x k) c.args.signal n)

pub returns : goal.returns
returns c b e = c.loop-s.invariant b e ∙ four_turns _ _ c.loop-s.s-index (omega arith)
