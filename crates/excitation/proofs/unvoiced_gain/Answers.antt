use Rattle.std.proofs.Common.{rules, ◌+◌, pos, arith, SFits, w32}
use Rattle.std.proofs.lemmas.Int.{ints}
use Rattle.integers.specs.Expression.{is-result, is-add, is-quot}
use Rattle.tables.proofs.Rules.{gain-most}
use Rattle.pulses.specs.Pulses.{doubled_gain}
use Rattle.excitation.proofs.unvoiced_gain.Goals as goal

pub overflow_add-result : goal.overflow_add-result
overflow_add-result c =
    search (rules, ints, c.doubled_gain.ensures, c.doubled_gain-2.ensures, gain-most c.args.index2, gain-most c.args.index3)

pub returns : goal.returns
returns c =
    let a = c.doubled_gain in
    let b = c.doubled_gain-2 in
    let fits : SFits w32 (pos (doubled_gain c.args.index2 + doubled_gain c.args.index3)) =
    record { sfits = omega (arith, gain-most c.args.index2, gain-most c.args.index3) }
    in
    (is-quot 2 (is-add (is-result w32 a.result a.type_inv a.ensures) (is-result w32 b.result b.type_inv b.ensures) fits) fits).is
