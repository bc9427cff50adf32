use Rattle.std.proofs.Common.{rules, pos, negsuc, ◌∙◌}
use Rattle.std.proofs.lemmas.Iterator.{YieldsList-from_slice}
use Rattle.std.proofs.lemmas.Iterator.Search.{all_from_yields_List}
use Rattle.state.specs.State.{between}
use Rattle.state.proofs.Tests.{all_listed}
use Rattle.state.proofs.are_words.Goals as goal

pub returns : goal.returns
returns c =
    let xs = c.args.xs.now in
    let t = between (negsuc 32767) (pos 32767) in
    all_from_yields_List t _ _ _ c.all.ensures.ran (YieldsList-from_slice xs cc) (λ x b q k. search rules) ∙ all_listed t xs
