use Rattle.std.proofs.Common.{◌∙◌, subst}
use Rattle.voicing.specs.Voicing.{leading_lag}
use Rattle.voicing.specs.Search.{Weighs}
use Rattle.voicing.proofs.Leaders.{counted, uncounted}
use Rattle.voicing.proofs.classify_erasure_voicing.Goals as goal

pub returns-in_err-w : goal.returns-in_err-w
returns-in_err-w c =
    let y = c.args.pcm_hist.now in
    c.from_residual.ensures ∙ uncounted y c.args.centre (subst (Weighs y (leading_lag y c.args.centre)) c.in_err-w.was c.leading.ensures)

pub returns : goal.returns
returns c = c.then_some.ensures ∙ counted c.args.pcm_hist.now c.args.centre c.in_ok-w.w c.in_ok-w.ensures
