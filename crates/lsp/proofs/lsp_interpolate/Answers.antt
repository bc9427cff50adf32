use Rattle.std.proofs.Common.{refl, ◌∙◌}
use Rattle.integers.specs.Signed.{all_fit}
use Rattle.lsp.proofs.Blends.{blend-operators}
use Rattle.lsp.proofs.lsp_interpolate.Goals as goal

pub returns-in-0 : goal.returns-in-0
returns-in-0 c = rw c.in-0.is (c.blended.ensures ∙ blend-operators 3 1 refl _ _ (all_fit 10 c.well_formed.1.0) (all_fit 10 c.well_formed.1.1.0))

pub returns-in-1 : goal.returns-in-1
returns-in-1 c = rw c.in-1.is (c.blended-in-1.ensures ∙ blend-operators 2 2 refl _ _ (all_fit 10 c.well_formed.1.0) (all_fit 10 c.well_formed.1.1.0))

pub returns-in-2 : goal.returns-in-2
returns-in-2 c = rw c.in-2.is (c.blended-in-2.ensures ∙ blend-operators 1 3 refl _ _ (all_fit 10 c.well_formed.1.0) (all_fit 10 c.well_formed.1.1.0))
