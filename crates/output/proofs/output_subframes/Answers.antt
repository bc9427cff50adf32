use Rattle.std.proofs.Common.{◌≡◌, ◌+◌, ◌-◌, ◌*◌, [], get_or, sym, ap, ◌∙◌, arith}
use borrow.Rule.Slice.PartMut.{put_mid}
use Rattle.output.specs.Output.{filters_after, subframe_output, filters_at}
use Rattle.output.proofs.Frames.{filters_zero, filters_step, written_start, written_next, written_end}
use Rattle.output.proofs.output_subframes.Goals as goal

pub loop-s-init : goal.loop-s-init
loop-s-init c =
    let a = c.args in (written_start a.on a.sets a.inputs a.f a.samples.now, filters_zero a.on a.sets a.inputs a.f)

pub loop-s-preserved : goal.loop-s-preserved
loop-s-preserved c =
    let a = c.args in
    let k = c.loop-s.s in
    let m = 60 * k + 60 - 60 * k in
    let r = c.output_subframe-g.ensures in
    let filters = c.loop-s.invariant.1 in
    let part = r.samples ∙ ap (subframe_output a.on (get_or a.sets k []) (get_or a.inputs k [])) filters in
    let passed = r.memories ∙ ap (filters_after a.on (get_or a.sets k []) (get_or a.inputs k [])) filters in (
      ap (put_mid (60 * k) m c.loop-s.samples) part
          ∙ written_next a.on a.sets a.inputs a.f a.samples.now c.loop-s.samples k m (omega arith) c.loop-s.invariant.0,
      passed ∙ sym (filters_step a.on a.sets a.inputs a.f k),
    )

pub returns : goal.returns
returns c =
    let a = c.args in
    let e : c.loop-s.s ≡ 4 = omega arith in
    record {
      memories = c.loop-s.invariant.1 ∙ ap (filters_at a.on a.sets a.inputs a.f) e;
      samples = c.loop-s.invariant.0 ∙ written_end a.on a.sets a.inputs a.f a.samples.now c.loop-s.s c.requires e;
    }
