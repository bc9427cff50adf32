use Rattle.std.proofs.Common.{rules, ◌≡◌, Bool, true, sym, ap, ◌∙◌}
use Rattle.digits.specs.Digits.{bytes_of}
use Rattle.lines.specs.Parts.{reply_of}
use Rattle.lines.proofs.Texts.{pairs_some, pairs_none}
use Rattle.lines.proofs.text_reply.Goals as goal

pub returns-in-Ok : goal.returns-in-Ok
returns-in-Ok c =
    let p = pairs_some c.args.text.now c.in-Ok.bytes c.in-Ok.ensures in
    let e : c.decoded.result ≡ reply_of true c.in-Ok.bytes.items c.args.given.now = search rules in
    e ∙ (λ i. reply_of (sym p.0 i) (p.1 i) c.args.given.now)

pub returns-in-Err : goal.returns-in-Err
returns-in-Err c =
    let bytes = bytes_of c.args.text.now in
    c.no_record.ensures bytes ∙ ap (λ (b : Bool). reply_of b bytes c.args.given.now) (sym (pairs_none c.args.text.now _ c.in-Err.ensures))
