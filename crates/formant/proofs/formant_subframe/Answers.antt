use Rattle.std.proofs.Common.{List, ℤ, ℕ, ◌<◌, nat_abs, sym, ap, ◌∙◌, subst}
use Rattle.std.specs.Int.{w16}
use Rattle.integers.specs.Base.{entry, Within, AllFit}
use Rattle.integers.specs.Signed.{all_fit}
use Rattle.tables.specs.Tables.{postfilter_zeros}
use Rattle.synthesis.specs.Synthesis.{difference, driven_subframe, driven_memory}
use Rattle.synthesis.proofs.Samples.{same_subframe, same_memory}
use Rattle.formant.specs.Formant.{weighted, zeros, poles}
use Rattle.formant.proofs.Filters.{predictions_read}
use Rattle.formant.proofs.Zeros.{sums, weighted-within, sums-prediction}
use Rattle.formant.proofs.formant_subframe.Goals as goal

pub zero_sums-less-requires : goal.zero_sums-less-requires
zero_sums-less-requires c =
    let fit : AllFit w16 c.args.a = all_fit 10 c.well_formed.0 in
    let is = c.weighted_coefficients-z.ensures ∙ ap (weighted c.args.a) c.postfilter_zero.ensures in
    subst (λ (l : List ℤ). (j : ℕ) → j < 10 → Within (nat_abs (entry postfilter_zeros j)) (entry l j)) (sym is)
    (weighted-within c.args.a fit postfilter_zeros)

pub returns : goal.returns
returns c =
    let a = c.args in
    let y = a.y.now in
    let zeros-is = c.weighted_coefficients-z.ensures ∙ ap (weighted a.a) c.postfilter_zero.ensures in
    let poles-is = c.weighted_coefficients-p.ensures ∙ ap (weighted a.a) c.postfilter_pole.ensures in
    let line = c.input_line.ensures in
    let less = c.zero_sums-less.ensures ∙ (λ i. sums (zeros-is i) (line i) 10) ∙ sums-prediction y a.num (zeros a.a) in
    let v = predictions_read a.a y a.num less in
    let passed = difference y c.zero_sums-less.result in
    record {
      out_value = c.pole_subframe.ensures.out_value ∙ ap (λ (q : List ℤ). driven_subframe q passed a.den) poles-is ∙ same_subframe (poles a.a) a.den v;
      mem_value = c.pole_subframe.ensures.mem_value ∙ ap (λ (q : List ℤ). driven_memory q passed a.den) poles-is ∙ same_memory (poles a.a) a.den v;
    }
