use Rattle.std.proofs.Common.{◌++◌, [], cond, ltb, sym, ap, ◌∙◌, length, arith}
use Rattle.counts.specs.Counts.{tally, count_line}
use Rattle.counts.proofs.Ascending.{lines_start, lines_step}
use Rattle.counts.proofs.closing_lines.Goals as goal

pub loop-n-init : goal.loop-n-init
loop-n-init c = record {
  room = omega (arith, ap length c.new-text.ensures);
  lines = c.new-text.ensures ∙ sym (lines_start (tally c.args.tallies));
}

pub loop-n-preserved : goal.loop-n-preserved
loop-n-preserved c =
    let t = tally c.args.tallies in
    let l = c.loop-n in record {
      room = omega arith;
      lines =
          c.close_number.ensures.items
          ∙ (λ j. l.invariant.lines j ++ cond (ltb 0 (t (c.from.ensures j))) (count_line l.n (t (c.from.ensures j))) [])
          ∙ lines_step t l.n (omega arith);
    }
