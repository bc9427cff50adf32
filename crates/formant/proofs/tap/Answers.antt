use Rattle.std.proofs.Common.{◌∙◌, to_z-of_z}
use Rattle.std.specs.Int.{w32}
use Rattle.integers.specs.Bound.{within-mul, within-fits, fits-within}
use Rattle.integers.specs.Expression.{is_arg, is-result, is_mul, is-add, need_add}
use Rattle.formant.proofs.tap.Goals as goal

pub overflow_add-result : goal.overflow_add-result
overflow_add-result c =
    let w = is-result w32 c.from.result c.from.type_inv (c.from.ensures ∙ to_z-of_z c.ranges.w) in
    let x = is-result w32 c.from-2.result c.from-2.type_inv (c.from-2.ensures ∙ to_z-of_z c.ranges.x) in
    need_add (is_arg c.ranges.sum) (is_mul w x (fits-within (within-mul (within-fits c.ranges.w) (within-fits c.ranges.x)) tt)) c.requires

pub returns : goal.returns
returns c =
    let w = is-result w32 c.from.result c.from.type_inv (c.from.ensures ∙ to_z-of_z c.ranges.w) in
    let x = is-result w32 c.from-2.result c.from-2.type_inv (c.from-2.ensures ∙ to_z-of_z c.ranges.x) in
    (is-add (is_arg c.ranges.sum) (is_mul w x (fits-within (within-mul (within-fits c.ranges.w) (within-fits c.ranges.x)) tt)) c.requires).is
