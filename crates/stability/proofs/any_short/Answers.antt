use Rattle.std.proofs.Common.{rules, sym, refl, ◌∙◌}
use Rattle.std.proofs.lemmas.Iterator.{YieldsList-from_range}
use Rattle.std.proofs.lemmas.Iterator.Search.{any_from_yields_List}
use borrow.Author.Tests.{tests}
use Rattle.stability.specs.Stability.{short, any_to}
use Rattle.stability.proofs.Passes.{any_range}
use Rattle.stability.proofs.any_short.Goals as goal

pub returns : goal.returns
unfolding any_to
returns c =
    any_from_yields_List (short c.args.minimum c.args.p) _ _ _ c.any.ensures.ran (YieldsList-from_range 0 9 9 refl refl) (λ x b q k. search (rules, tests))
    ∙ sym (any_range (short c.args.minimum c.args.p) 0 9)
