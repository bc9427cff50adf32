use Rattle.std.proofs.Common.{◌≡◌, ◌≤◌, ◌+◌, ◌*◌, length}
use Rattle.counts.specs.Counts.{tally, count_lines, seen_below}
use Rattle.counts.proofs.closing_lines.Given as goal

abbrev pub invariant-loop-n : goal.invariant-loop-n
invariant-loop-n l = record {
  room : length l.text.items + 25 ≤ 25 * l.n;
  lines : l.text.items ≡ count_lines (tally l.fn.tallies) (seen_below (tally l.fn.tallies) l.n);
}
