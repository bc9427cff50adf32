use Rattle.std.proofs.Common.{[], List, ℕ, ap, ◌∙◌, length, arith}
use Rattle.lines.specs.Parts.{text_reply}
use Rattle.lines.proofs.Kept.{text_line, over_line}
use Rattle.lines.proofs.line_reply.Goals as goal

pub returns-then-line : goal.returns-then-line
returns-then-line c = c.no_record.ensures [] ∙ over_line c.args.line.now c.args.given.now [] c.if-line.true

pub returns : goal.returns
returns c =
    let s = c.args.given.now in
    let e = c.deref.ensures.0 in
    c.text_reply.ensures
    ∙ ap (λ (text : List ℕ). text_reply text s) e
    ∙ text_line c.args.line.now s c.if-line.false (omega (arith, ap length e, c.deref.ensures.1))
