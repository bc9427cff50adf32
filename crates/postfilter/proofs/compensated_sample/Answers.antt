use Rattle.std.proofs.Common.{◌≡◌, ◌^◌, ◌<◌, ℤ, ◌-ℤ◌, ◌*ℤ◌, ℕ, SFits, ◌∙◌, ap, to_z, of_z, w16, w32}
use Rattle.std.specs.Int.Signed.{mag, shr_z}
use Rattle.integers.specs.Base.{Is}
use Rattle.integers.specs.Bound.{within-sub, within-mul, within-shr, within-fits, fits-within}
use Rattle.integers.specs.Signed.{back}
use Rattle.integers.specs.Expression.{is_arg, is-result, is_mul, is-shr, is-sub, need_sub, is_out}
use Rattle.basicop.specs.Operators.{word16}
use Rattle.postfilter.proofs.compensated_sample.Goals as goal

-- a call's answer r is z, where it is what the bits n of 16 are read as, and these are z's
answered : (r z : ℤ) (n : ℕ) → mag r < 2 ^ 31 → r ≡ to_z w16 n → Is w16 n z → Is w32 (of_z w32 r) z
answered r z n h e i = is-result w32 r h (e ∙ i.is)

-- the product of a quarter of k1 with `before` fits 32 bits, and so does z less its 32768th
fits : {k1 z before : ℤ} → SFits w16 k1 → SFits w16 z → SFits w16 before → let p = shr_z k1 4 *ℤ before in SFits w32 p × SFits w32 (z -ℤ shr_z p 32768)
fits k1 z before =
    let small = within-mul (within-shr 4 (within-fits k1)) (within-fits before) in
    (fits-within small tt, fits-within (within-sub (within-fits z) (within-shr 32768 small)) tt)

pub overflow_sub-from : goal.overflow_sub-from
overflow_sub-from c = let f = fits c.ranges.k1 c.ranges.z c.ranges.before in search (answered, is_arg, is_mul, is-shr, need_sub) depth 12

pub returns : goal.returns
returns c =
    let a = c.args in
    let f = fits c.ranges.k1 c.ranges.z c.ranges.before in
    back w16 c.saturate.type_inv (c.saturate.ensures ∙ ap word16 (is_out w32 _ (a.z -ℤ shr_z (shr_z a.k1 4 *ℤ a.before) 32768) (search (answered, is_arg, is_mul, is-shr, is-sub) depth 12)))
