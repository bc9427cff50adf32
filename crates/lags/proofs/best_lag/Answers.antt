use Rattle.std.proofs.Common.{ap, ◌∙◌, arith}
use Rattle.lags.specs.Lags.{best_of}
use Rattle.lags.proofs.Searches.{leads-inside}
use Rattle.lags.proofs.Bests.{leads_best}
use Rattle.lags.proofs.best_lag.Goals as goal

pub returns-clause-value : goal.returns-clause-value
returns-clause-value c =
    leads_best c.args.x.now c.args.to c.args.p c.args.lo c.loop-k.k c.loop-k.best c.loop-k.invariant.leads
    ∙ ap (best_of c.args.x.now c.args.to c.args.p c.args.lo) (omega arith)

pub returns-clause-inside : goal.returns-clause-inside
returns-clause-inside c = leads-inside c.args.x.now c.args.to c.args.p c.args.lo c.loop-k.k (omega arith) c.loop-k.best c.loop-k.invariant.leads
