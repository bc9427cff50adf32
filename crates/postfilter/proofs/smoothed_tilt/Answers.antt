use Rattle.std.proofs.Common.{pos, ◌∙◌, ap, to_z-of_z}
use Rattle.std.specs.Int.{w16, w32}
use Rattle.integers.specs.Bound.{within-add, within-mul, within_num, within-fits, fits-within}
use Rattle.integers.specs.Signed.{back}
use Rattle.integers.specs.Expression.{is_arg, is-lit, is-result, is_mul, is-shr, is-add}
use Rattle.basicop.specs.Operators.{word16}
use Rattle.postfilter.proofs.smoothed_tilt.Goals as goal

pub returns : goal.returns
returns c =
    let kept = within-mul (within_num (pos 3)) (within-fits c.ranges.k1) in
    let both = within-add kept c.requires in
    let fits = fits-within (within-add both (within_num (pos 2))) tt in
    let k1 = is-result w32 c.from.result c.from.type_inv (c.from.ensures ∙ to_z-of_z c.ranges.k1) in
    let sum = is-add (is_mul (is-lit w32 3) k1 (fits-within kept tt)) (is_arg c.ranges.k) (fits-within both tt) in
    back w16 c.saturate.type_inv (c.saturate.ensures ∙ ap word16 (is-shr 4 (is-add sum (is-lit w32 2) fits) fits).is)
