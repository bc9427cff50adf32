use Rattle.std.proofs.Common.{rules}
use lib.IntN.{ℤ}
use Rattle.std.proofs.lemmas.Iterator.{YieldsList-from_slice}
use Rattle.std.proofs.lemmas.Iterator.Search.{all_from_yields_List}
use Rattle.state.specs.State.{between}
use Rattle.state.proofs.numbers_in_bounds.Goals as goal

pub returns : goal.returns
returns c =
    let r = all_from_yields_List (λ (b : ℤ × ℤ × ℤ). between b.0 b.1 b.2) _ _ _ c.all.ensures.ran (YieldsList-from_slice _ c.iter.ensures.rest) (λ x b q k. search rules) in
    search rules
