use Rattle.lines.proofs.Texts.{decoded_is}
use Rattle.lines.proofs.decoded.Goals as goal

pub returns : goal.returns
returns c =
    decoded_is c.args.given.now c.args.bytes.now c.decode-a.result _ c.answered.result c.decode-a.ensures.answer c.decode-a.ensures.samples c.answered.ensures
