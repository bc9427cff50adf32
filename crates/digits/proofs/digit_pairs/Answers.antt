use Rattle.std.proofs.Common.{rules, ap, ◌∙◌, ◌≡◌, ◌++◌, ◌/◌, length, take, arith}
use Rattle.digits.proofs.Reading.{reading_start, reading_next, reading_end, too_long}
use Rattle.digits.proofs.digit_pairs.Goals as goal

pub returns-then-text-gt-LINE_MAX : goal.returns-then-text-gt-LINE_MAX
returns-then-text-gt-LINE_MAX c = too_long c.args.text.now (omega arith) c.new-bytes.ensures

pub loop-i-init : goal.loop-i-init
loop-i-init c = reading_start c.args.text.now _ (search rules)

pub loop-i-preserved : goal.loop-i-preserved
loop-i-preserved c =
    reading_next c.loop-i.invariant (omega arith) (omega arith) c.digit_code-high.ensures c.digit_code-low.ensures c.pair_value.ensures c.still_digits-are_pairs.ensures

pub returns-then-are_pairs : goal.returns-then-are_pairs
returns-then-are_pairs c =
    let held : c.try_extend_from_slice-fits.new.self.items ≡ c.new-bytes.result.items ++ take (length c.args.text.now / 2) c.loop-i.read = search rules in
    reading_end c.loop-i.invariant (omega arith) (omega arith) (held ∙ ap (λ l. l ++ take (length c.args.text.now / 2) c.loop-i.read) c.new-bytes.ensures) c.if-are_pairs.true

pub returns-else-are_pairs : goal.returns-else-are_pairs
returns-else-are_pairs c =
    let held : c.try_extend_from_slice-fits.new.self.items ≡ c.new-bytes.result.items ++ take (length c.args.text.now / 2) c.loop-i.read = search rules in
    reading_end c.loop-i.invariant (omega arith) (omega arith) (held ∙ ap (λ l. l ++ take (length c.args.text.now / 2) c.loop-i.read) c.new-bytes.ensures) c.if-are_pairs.false
