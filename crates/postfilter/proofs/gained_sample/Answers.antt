use Rattle.std.proofs.Common.{pos, ◌∙◌, ap, to_z-of_z}
use Rattle.std.specs.Int.{w16, w64}
use Rattle.integers.specs.Bound.{within-add, within-mul, within_num, within-fits, fits-within}
use Rattle.integers.specs.Signed.{back}
use Rattle.integers.specs.Expression.{is-result, is-lit, is_mul, is-shr, is-add, need_add}
use Rattle.basicop.specs.Operators.{word16}
use Rattle.postfilter.proofs.gained_sample.Goals as goal

pub overflow_add-from : goal.overflow_add-from
overflow_add-from c =
    let product = within-mul (within-fits c.ranges.z) (within-fits c.ranges.g) in
    let boosted = within-mul product (within_num (pos 17)) in
    let z = is-result w64 c.from.result c.from.type_inv (c.from.ensures ∙ to_z-of_z c.ranges.z) in
    let g = is-result w64 c.from-2.result c.from-2.type_inv (c.from-2.ensures ∙ to_z-of_z c.ranges.g) in
    let scaled = is_mul (is_mul z g (fits-within product tt)) (is-lit w64 17) (fits-within boosted tt) in
    need_add scaled (is-lit w64 32768) (fits-within (within-add boosted (within_num (pos 32768))) tt)

pub returns : goal.returns
returns c =
    let product = within-mul (within-fits c.ranges.z) (within-fits c.ranges.g) in
    let boosted = within-mul product (within_num (pos 17)) in
    let z = is-result w64 c.from.result c.from.type_inv (c.from.ensures ∙ to_z-of_z c.ranges.z) in
    let g = is-result w64 c.from-2.result c.from-2.type_inv (c.from-2.ensures ∙ to_z-of_z c.ranges.g) in
    let scaled = is_mul (is_mul z g (fits-within product tt)) (is-lit w64 17) (fits-within boosted tt) in
    let fits = fits-within (within-add boosted (within_num (pos 32768))) tt in
    back w16 c.limited_sample.type_inv (c.limited_sample.ensures ∙ ap word16 (is-shr 65536 (is-add scaled (is-lit w64 32768) fits) fits).is)
