use Rattle.decoder.proofs.Answers.{refusal-is, number-is}
use Rattle.decoder.proofs.decode.Goals as goal

pub returns-in-Ok-clause-number : goal.returns-in-Ok-clause-number
returns-in-Ok-clause-number c = number-is c.args.given c.args.«record».now c.args.samples.now c.in-Ok.ensures.answer

pub returns-in-Err-clause-answer : goal.returns-in-Err-clause-answer
returns-in-Err-clause-answer c = refusal-is c.args.given c.args.«record».now c.args.samples.now c.in-Err.ensures.answer c.refused.ensures

pub returns-in-Err-clause-number : goal.returns-in-Err-clause-number
returns-in-Err-clause-number c =
    let a = c.args in
    number-is a.given a.«record».now a.samples.now (refusal-is a.given a.«record».now a.samples.now c.in-Err.ensures.answer c.refused.ensures)
