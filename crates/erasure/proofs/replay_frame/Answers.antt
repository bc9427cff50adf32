use Rattle.std.proofs.Common.{◌∙◌, refl, sym, arith, pos, w16, to_z, of_z, to_z-of_z}
use Rattle.excitation.specs.Excitation.{in_turn}
use Rattle.adaptive.specs.Adaptive.{limited_lag}
use Rattle.erasure.specs.Erasure.{replay_to}
use Rattle.erasure.proofs.Frames.{number, turns, turns_next, four_turns}
use Rattle.erasure.proofs.replay_frame.Goals as goal

pub loop-s-init : goal.loop-s-init
unfolding turns
loop-s-init c = refl

pub loop-s-preserved : goal.loop-s-preserved
loop-s-preserved c =
    let f = replay_to (limited_lag (pos c.args.lag)) (to_z w16 (of_z w16 c.args.gain)) in
    let n = c.loop-s.s-index in
    c.replay_subframe-next.ensures ∙ (λ i. f (c.loop-s.invariant i) (number n)) ∙ sym (turns_next f c.args.signal n)

pub returns : goal.returns
returns c =
    let gain = to_z-of_z {w = w16} c.ranges.gain in
    c.loop-s.invariant
    ∙ four_turns _ _ c.loop-s.s-index (omega arith)
    ∙ (λ i. in_turn (replay_to (limited_lag (pos c.args.lag)) (gain i)) c.args.signal)
