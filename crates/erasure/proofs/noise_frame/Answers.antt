use Rattle.std.proofs.Common.{◌≡◌, ◌*◌, ◌-◌, ℕ, ◌∙◌, refl, sym, ap, arith, w16, to_z, of_z, to_z-of_z}
use Rattle.excitation.specs.Excitation.{subframe_place, with_subframe, in_turn}
use Rattle.noise.specs.Noise.{word_after, noise_subframe}
use Rattle.noise.proofs.Words.{word-after-zero, word-after-add}
use Rattle.erasure.specs.Erasure.{noise_to}
use Rattle.erasure.proofs.Frames.{number, turns, turns_next, place_of, four_turns}
use Rattle.erasure.proofs.noise_frame.Goals as goal

pub loop-s-init : goal.loop-s-init
unfolding turns
loop-s-init c = (refl, sym (word-after-zero c.args.start))

pub loop-s-preserved : goal.loop-s-preserved
loop-s-preserved c =
    let g = to_z w16 (of_z w16 c.args.gain) in
    let w = word_after c.args.start in
    let f = noise_to g c.args.start in
    let n = c.loop-s.s-index in
    let word : c.loop-s.word ≡ w (60 * n) = c.loop-s.invariant.1 in
    let out : c.noise_subframe-noise.result.out ≡ noise_subframe g (w (subframe_place (number n) - 146)) =
    c.noise_subframe-noise.ensures.out_value
    ∙ ap (noise_subframe g) word
    ∙ ap (λ (k : ℕ). noise_subframe g (w k)) (sym (place_of n c.loop-s-test.true))
    in (
      c.push_excitation-next.ensures
          ∙ (λ i. with_subframe (c.loop-s.invariant.0 i) (subframe_place (number n)) (out i))
          ∙ sym (turns_next f c.args.signal n),
      c.noise_subframe-noise.ensures.word_value
          ∙ ap (λ (v : ℕ). word_after v 60) word
          ∙ word-after-add c.args.start (60 * n) 60
          ∙ ap w (omega arith),
    )

pub returns : goal.returns
returns c =
    let gain = to_z-of_z {w = w16} c.ranges.gain in
    c.loop-s.invariant.0
    ∙ four_turns _ _ c.loop-s.s-index (omega arith)
    ∙ (λ i. in_turn (noise_to (gain i) c.args.start) c.args.signal)
