use Rattle.std.proofs.Common.{◌≡◌, Option, ℕ, pos, sym, ap, ◌∙◌, rules, w16, to_z, of_z}
use Rattle.excitation.specs.Excitation.{in_turn}
use Rattle.adaptive.specs.Adaptive.{limited_lag}
use Rattle.noise.specs.Noise.{attenuated}
use Rattle.erasure.specs.Erasure.{noise_to, replay_to, erased_excitation}
use Rattle.erasure.proofs.erased_excitation.Goals as goal

pub returns-in-Some : goal.returns-in-Some
unfolding erased_excitation
returns-in-Some c =
    let a = c.args in
    let gain : to_z w16 (of_z w16 c.attenuated_gain.result) ≡ attenuated a.tap_sum a.run = search rules in
    c.replay_frame.ensures
    ∙ (λ i. in_turn (replay_to (limited_lag (pos c.in-Some.lag)) (gain i)) a.signal)
    ∙ sym (ap (λ (v : Option ℕ). erased_excitation v a.tap_sum a.gain a.run a.signal) c.in-Some.is)

pub returns-in-None : goal.returns-in-None
unfolding erased_excitation
returns-in-None c =
    let a = c.args in
    let gain : to_z w16 (of_z w16 c.attenuated_gain-in-None.result) ≡ attenuated a.gain a.run = search rules in
    c.noise_frame.ensures
    ∙ (λ i. in_turn (noise_to (gain i) (c.noise_start.ensures i)) a.signal)
    ∙ sym (ap (λ (v : Option ℕ). erased_excitation v a.tap_sum a.gain a.run a.signal) c.in-None.is)
