use Rattle.std.proofs.Common.{ℕ, IfSome, sym, subst}
use Rattle.lags.specs.Search.{Inside, Small}
use Rattle.lags.specs.declared.Choice.{Choice}
use Rattle.lags.proofs.Choices.{chosen-holds}
use Rattle.std.specs.Prelude.{Option}
use Rattle.lags.proofs.chosen_lag.Goals as goal

pub returns-clause-small : goal.returns-clause-small
returns-clause-small c =
    let P : Choice → Type 0 = λ k. Small k.best in
    subst (λ (r : Option Choice). IfSome r P) (sym c.chosen_direction.ensures) (chosen-holds P c.best_lag-f.result c.best_lag-b.result c.best_lag-f.ensures.small c.best_lag-b.ensures.small)

pub returns-clause-inside : goal.returns-clause-inside
returns-clause-inside c =
    let P : ℕ → Choice → Type 0 = λ p k. Inside k.to p k.best in
    subst (λ (p : ℕ). IfSome c.chosen_direction.result (P p)) c.subframe_place-p.ensures
    (subst (λ (r : Option Choice). IfSome r (P c.subframe_place-p.result)) (sym c.chosen_direction.ensures)
    (chosen-holds (P c.subframe_place-p.result) c.best_lag-f.result c.best_lag-b.result c.best_lag-f.ensures.inside c.best_lag-b.ensures.inside))
