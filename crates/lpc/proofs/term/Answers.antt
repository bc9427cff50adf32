use Rattle.std.specs.Prelude.{ℤ, ◌^◌, ◌-ℤ◌, ◌*ℤ◌}
use Rattle.std.specs.Int.{w16, w64}
use Rattle.std.proofs.Common.{◌∙◌, SFits, to_z-of_z}
use Rattle.integers.specs.Base.{floor_div, Within}
use Rattle.integers.specs.Bound.{within-add, within-sub, within-mul, within-shr, within-fits, fits-within}
use Rattle.integers.specs.Expression.{is_arg, is-result, is_mul, is-shr, is-sub, is-add, need_add}
use Rattle.lpc.specs.Lpc.{factor_term}
use Rattle.lpc.proofs.term.Goals as goal

fits : (c x y z : ℤ) → SFits w16 c → Within (2 ^ 37) x → Within (2 ^ 37) y → Within (2 ^ 37) z →
    SFits w64 (y *ℤ c) × SFits w64 (x -ℤ floor_div (y *ℤ c) 8192) × SFits w64 (factor_term c x y z)
fits c x y z f a b d =
    let p = within-mul b (within-fits f) in
    let q = within-sub a (within-shr 8192 p) in
    (fits-within p tt, fits-within q tt, fits-within (within-add q d) tt)

pub overflow_add-result : goal.overflow_add-result
overflow_add-result c =
    let a = c.args in
    let f = fits a.c a.x a.y a.z c.ranges.c c.requires.within c.requires.within_2 c.requires.within_3 in
    let product = is_mul (is_arg c.ranges.y) (is-result w64 c.from.result c.from.type_inv (c.from.ensures ∙ to_z-of_z c.ranges.c)) f.0 in
    need_add (is-sub (is_arg c.ranges.x) (is-shr 8192 product f.0) f.1) (is_arg c.ranges.z) f.2

pub returns : goal.returns
returns c =
    let a = c.args in
    let f = fits a.c a.x a.y a.z c.ranges.c c.requires.within c.requires.within_2 c.requires.within_3 in
    let product = is_mul (is_arg c.ranges.y) (is-result w64 c.from.result c.from.type_inv (c.from.ensures ∙ to_z-of_z c.ranges.c)) f.0 in
    (is-add (is-sub (is_arg c.ranges.x) (is-shr 8192 product f.0) f.1) (is_arg c.ranges.z) f.2).is
