use Rattle.std.proofs.Common.{◌≡◌, ◌+◌, ℕ, SFits, sym, subst, rules, ℤ, pos, nat_abs, List, ap, ◌∙◌, arith, to_z, of_z, to_z-of_z}
use Rattle.std.specs.Int.{w16, w32, w64}
use Rattle.integers.specs.Base.{entry}
use Rattle.integers.specs.Bound.{within_weaken}
use Rattle.integers.specs.Signed.{back}
use Rattle.integers.specs.Saturation.{saturated-fits}
use Rattle.integers.specs.Fill.{tabulate-at}
use Rattle.integers.specs.Expression.{is-mag, is-result, within-is}
use Rattle.correlation.specs.Correlation.{energy}
use Rattle.postfilter.specs.Postfilter.{tilt_of, smoothed, compensated, gain_target, gain_after, gained, filtered, postfilter_after}
use Rattle.synthesis.specs.Synthesis.{driven, driven_subframe}
use Rattle.synthesis.proofs.Samples.{driven-step}
use Rattle.formant.specs.Formant.{formant, poles, after_zeros}
use Rattle.postfilter.proofs.Bounds.{tilt-within}
use Rattle.postfilter.proofs.filtered_subframe.Goals as goal

pub tilt_quotient-requires : goal.tilt_quotient-requires
tilt_quotient-requires c = record {
  within = within-is {w = w64} (is-mag c.correlate-r1.result c.correlate-r1.type_inv) (within_weaken c.correlate-r1.ensures.within tt);
  r0_bound = omega (arith, c.energy_from-r0.ensures.upper_bound);
}

pub smoothed_tilt-k1-requires : goal.smoothed_tilt-k1-requires
smoothed_tilt-k1-requires c =
    let k = tilt-within (to_z w64 (of_z w64 c.correlate-r1.result)) c.energy_from-r0.result in
    within-is (is-result w32 c.tilt_quotient.result c.tilt_quotient.type_inv c.tilt_quotient.ensures) k

-- the filter's last output is a sample
formant_fits : (a y num den : List ℤ) → SFits w16 (entry (formant a y num den) 59)
unfolding driven_subframe
formant_fits a y num den =
    let v : ℕ → ℤ = after_zeros a y num in
    let at = tabulate-at (λ n. entry (driven (poles a) v den (n + 1)) 0) 60 59 (pos 0) (omega arith) in
    subst (SFits w16) (sym (at ∙ ap (λ (q : List ℤ). entry q 0) (driven-step (poles a) v den 59))) (saturated-fits 32767 _ tt)

pub returns : goal.returns
unfolding filtered postfilter_after
returns c =
    let m = c.args.pf in
    let y = c.args.y in
    let prev : to_z w16 (of_z w16 m.tilt_prev) ≡ m.tilt_prev = search rules in
    let old-k1 : to_z w16 (of_z w16 m.tilt_k1) ≡ m.tilt_k1 = search rules in
    let old-gain : to_z w32 (of_z w32 m.agc_gain_q12) ≡ m.agc_gain_q12 = search rules in
    let formant-is = c.formant_subframe-f.ensures.out_value in
    let output = c.formant_subframe-f.result.out in
    let fits = subst (λ (z : List ℤ). SFits w16 (entry z 59)) (sym formant-is) (formant_fits c.args.a y m.num_mem m.den_mem) in
    let last : to_z w16 (of_z w16 (entry output 59)) ≡ entry output 59 = to_z-of_z fits in
    let r0 = ap nat_abs c.energy_from-r0.ensures.result_value in
    let r1 = back w64 c.correlate-r1.type_inv c.correlate-r1.ensures.value in
    let k = back w32 c.tilt_quotient.type_inv (c.tilt_quotient.ensures ∙ (λ i. tilt_of (r1 i) (r0 i))) in
    let k1 = back w16 c.smoothed_tilt-k1.type_inv (c.smoothed_tilt-k1.ensures ∙ (λ i. smoothed (old-k1 i) (k i))) in
    let v = c.compensated_subframe-v.ensures ∙ (λ i. compensated (k1 i) (prev i) (formant-is i)) in
    let f = ap nat_abs c.energy_from.ensures.result_value ∙ ap (λ (z : List ℤ). nat_abs (energy z 0 60)) v in
    let target = back w32 c.gain_target-target.type_inv (c.gain_target-target.ensures ∙ (λ i. pos (gain_target (r0 i) (f i)))) in
    let moved : to_z w32 (of_z w32 c.gained_subframe-g.result.mem) ≡ c.gained_subframe-g.result.mem = search rules in
    record {
      out_value = c.gained_subframe-g.ensures.out_value ∙ (λ i. gained (target i) (old-gain i) (v i));
      mem_value = λ i. record {
        num_mem = c.last_ten-num_mem.ensures i;
        den_mem = c.formant_subframe-f.ensures.mem_value i;
        tilt_prev = (last ∙ ap (λ (z : List ℤ). entry z 59) formant-is) i;
        tilt_k1 = k1 i;
        agc_gain_q12 = (moved ∙ c.gained_subframe-g.ensures.mem_value ∙ (λ i. gain_after (target i) (old-gain i) 60)) i;
      };
    }
