use Rattle.std.proofs.Common.{◌≡◌, ◌+◌, sym, refl, ap, ◌∙◌, arith, rules, to_z-of_z, w16}
use Rattle.integers.specs.Base.{tabulate}
use Rattle.integers.specs.Fill.{fills_start, fills_next, fills_end}
use Rattle.noise.specs.Noise.{next_word_of, word_after, noise, noise_subframe}
use Rattle.basicop.specs.Operators.{mult16}
use Rattle.noise.proofs.Words.{word-after-zero, word-after-step}
use Rattle.noise.proofs.noise_subframe.Goals as goal

pub loop-sample-init : goal.loop-sample-init
loop-sample-init c = (sym (word-after-zero c.args.start), fills_start refl)

pub loop-sample-preserved : goal.loop-sample-preserved
loop-sample-preserved c =
    let next : c.next_word-word.result ≡ word_after c.args.start (c.loop-sample.sample-index + 1) =
    c.next_word-word.ensures ∙ ap next_word_of c.loop-sample.invariant.0 ∙ sym (word-after-step c.args.start c.loop-sample.sample-index)
    in
    (next, fills_next c.loop-sample.invariant.1 c.loop-sample-test.true (search rules))

pub returns : goal.returns
unfolding noise_subframe
returns c = record {
  out_value =
      fills_end c.loop-sample.invariant.1 c.loop-sample-test.false
      ∙ (λ j. tabulate (λ n. mult16 (to_z-of_z {w = w16} c.ranges.gain j) (noise (word_after c.args.start (n + 1)))) 60);
  word_value = c.loop-sample.invariant.0 ∙ ap (word_after c.args.start) (omega (arith, c.loop-sample.invariant.1.bound));
}
