use Rattle.std.proofs.Common.{rules, ◌∙◌, sym, ap, Ok}
use Rattle.decoder.specs.Frame.{erased_checked, erased_samples, erased_state, received_checked, received_samples, received_state}
use Rattle.decoder.specs.Decoder.{answer_to, samples_to, acceptance}
use Rattle.decoder.proofs.Answers.{length_refused, bounds_refused, bounded_found_lem, answer-is, samples-are, samples-kept}
use Rattle.decoder.proofs.accepted.Goals as goal

pub returns-in_default : goal.returns-in_default
returns-in_default c =
    let a = c.args in
    let e = length_refused a.given a.«record».now a.samples.now (search rules) in
    record { answer = e; samples = samples-kept a.given a.«record».now a.samples.now e }

pub returns-in_err-bounded : goal.returns-in_err-bounded
returns-in_err-bounded c =
    let a = c.args in
    let b = c.in_err-bounded.ensures in
    let e = bounds_refused a.given a.«record».now a.samples.now (search rules) b.1 in
    record { answer = search (rules, e, b.0); samples = search (rules) ∙ samples-kept a.given a.«record».now a.samples.now e }

pub returns-in_err-examine : goal.returns-in_err-examine
returns-in_err-examine c =
    let a = c.args in
    let e = bounded_found_lem a.given a.«record».now a.samples.now (search rules) c.in_ok-bounded.bounded c.in_ok-bounded.ensures (sym c.examine.ensures.answer ∙ c.in_err-examine.was) in
    record { answer = search (rules, e); samples = search rules ∙ samples-kept a.given a.«record».now a.samples.now e }

pub returns-in-Erased : goal.returns-in-Erased
unfolding answer_to samples_to
returns-in-Erased c =
    let a = c.args in
    let is = c.in_ok-bounded.ensures in
    let e = bounded_found_lem a.given a.«record».now a.samples.now (search rules) c.in_ok-bounded.bounded c.in_ok-bounded.ensures (sym c.examine.ensures.answer ∙ c.in_ok-examine.was ∙ ap Ok c.in-Erased.is) in
    record {
      answer = answer-is a.given a.«record».now a.samples.now e (c.decode_erased.ensures.answer ∙ ap (λ s. acceptance (erased_checked s).outcome (erased_state s)) is);
      samples = samples-are a.given a.«record».now a.samples.now e (c.decode_erased.ensures.samples ∙ ap erased_samples is);
    }

pub returns-in-Received : goal.returns-in-Received
unfolding answer_to samples_to
returns-in-Received c =
    let a = c.args in
    let is = c.in_ok-bounded.ensures in
    let e = bounded_found_lem a.given a.«record».now a.samples.now (search rules) c.in_ok-bounded.bounded c.in_ok-bounded.ensures (sym c.examine.ensures.answer ∙ c.in_ok-examine.was ∙ ap Ok c.in-Received.is) in
    let y = c.candidates_of-candidates.ensures in
    let f = c.fields.ensures in
    let rate = c.in-Received.rate in
    record {
      answer = answer-is a.given a.«record».now a.samples.now e (c.decode_received.ensures.answer ∙ (λ i. acceptance (received_checked (is i) (y i)).outcome (received_state (is i) rate (f i) (y i))));
      samples = samples-are a.given a.«record».now a.samples.now e (c.decode_received.ensures.samples ∙ (λ i. received_samples (is i) rate (f i) (y i)));
    }
