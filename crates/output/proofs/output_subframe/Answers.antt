use Rattle.std.specs.Prelude.{not}
use Rattle.std.proofs.Common.{◌∙◌, ap}
use Rattle.postfilter.specs.Postfilter.{filtered, postfilter_after}
use Rattle.output.proofs.Subframes.{output-off, output_on, memories_off, memories_on}
use Rattle.output.proofs.output_subframe.Goals as goal

pub returns-then-not-on : goal.returns-then-not-on
returns-then-not-on c =
    let a = c.args in
    let y = c.synthesis_subframe-y.ensures in
    let off = ap not c.if-not-on.true in
    record {
      memories = (λ i. record { syn_mem = y.mem_value i; pf = a.f.pf }) ∙ memories_off a.on a.a a.x a.f off;
      samples = c.copy_from_slice.ensures.after ∙ y.out_value ∙ output-off a.on a.a a.x a.f off;
    }

pub returns : goal.returns
returns c =
    let a = c.args in
    let y = c.synthesis_subframe-y.ensures in
    let z = c.postfilter_subframe-z.ensures in
    let on = ap not c.if-not-on.false in
    let passed = z.1 ∙ ap (postfilter_after a.f.pf a.a) y.out_value in
    let written = z.0 ∙ ap (filtered a.f.pf a.a) y.out_value in
    record {
      memories = (λ i. record { syn_mem = y.mem_value i; pf = passed i }) ∙ memories_on a.on a.a a.x a.f on;
      samples = c.copy_from_slice-2.ensures.after ∙ written ∙ output_on a.on a.a a.x a.f on;
    }
