use Rattle.std.proofs.Common.{◌≡◌, ℤ, pos, get_or, sym, ap, subst, arith, rules}
use Rattle.std.proofs.Math.ListN.{get_or-map, get_or-eq_default}
use mir.Syntax.{w16}
use mir.Val.{to_z, of_z}
use Rattle.integers.specs.Signed.{read_back}
use Rattle.tables.specs.Tables.{gains}
use Rattle.tables.proofs.Rules.{gain_rule}
use Rattle.tables.proofs.spec_tables.fixed_codebook_gain.Goals as goal

pub returns-then-i-lt24 : goal.returns-then-i-lt24
unfolding gains
returns-then-i-lt24 c =
    let i = c.args.index in
    let g = gain_rule i (search rules) in
    subst (λ (z : ℤ). to_z w16 (of_z w16 z) ≡ pos (get_or gains i 0)) (sym (get_or-map pos gains i 0)) (read_back w16 (pos (get_or gains i 0)) (omega (arith, g.at_most)))

pub returns-else-i-lt24 : goal.returns-else-i-lt24
unfolding gains
returns-else-i-lt24 c = sym (ap pos (get_or-eq_default gains 0 {n = c.args.index} (search rules)))
