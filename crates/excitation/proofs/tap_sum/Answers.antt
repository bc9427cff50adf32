use Rattle.std.proofs.Common.{◌≡◌, ◌^◌, ◌*◌, ◌+◌, ℤ, ◌+ℤ◌, refl, sym, ◌∙◌, subst, arith, lit≤, to_z-of_z, w16, w32, to_z, of_z}
use Rattle.integers.specs.Base.{Within, Sums, entry, sum_to}
use Rattle.integers.specs.Bound.{within-fits}
use Rattle.integers.specs.Signed.{back, all_fit}
use Rattle.integers.specs.Sum.{sums-fits, sums_next}
use Rattle.excitation.proofs.tap_sum.Goals as goal

pub loop-tap-init : goal.loop-tap-init
unfolding sum_to
loop-tap-init c = (refl, record { within = omega arith })

-- a tap as it is read and added
pub loop-tap-preserved : goal.loop-tap-preserved
loop-tap-preserved c =
    let f = entry c.args.taps in
    let l = c.loop-tap in
    let s : Sums w32 f (2 ^ 15) l.sum-bits l.tap-index =
    record { small = subst (Within (l.tap-index * 2 ^ 15)) l.invariant.0 l.invariant.1; is = l.invariant.0 }
    in
    let fit = (all_fit {w = w16} 5 c.well_formed.0).at l.tap-index in
    let tap : ℤ = to_z w32 (of_z w32 c.from-sum.result) in
    let is : tap ≡ f l.tap-index = back w32 c.from-sum.type_inv (c.from-sum.ensures ∙ to_z-of_z fit) in
    let within : Within (2 ^ 15) tap = subst (Within (2 ^ 15)) (sym is) (within-fits fit) in
    let next = sums_next s tap (to_z w32 l.sum-bits +ℤ tap) within is refl (sums-fits 5 s c.loop-tap-test.true tap within (lit≤ tt)).sfits in
    (next.is, subst (Within ((l.tap-index + 1) * 2 ^ 15)) (sym next.is) next.small)
