use Rattle.std.proofs.Common.{◌≡◌, ◌+◌, ◌+ℤ◌, ◌*ℤ◌, SFits, pos, rules, refl, sym, ◌∙◌, subst, to_z, of_z, to_z-of_z}
use Rattle.std.specs.Int.{w16, w32}
use Rattle.integers.specs.Base.{entry, tabulate, AllFit}
use Rattle.integers.specs.Signed.{back, all_fit}
use Rattle.integers.specs.Fill.{tabulate-at, fills_start, fills_next, fills_end}
use Rattle.formant.proofs.tapped.Goals as goal

pub loop-n-init : goal.loop-n-init
loop-n-init c = fills_start refl

pub tap-requires : goal.tap-requires
tap-requires c =
    let n = c.loop-n.n in
    let fits : AllFit w32 c.args.sums = all_fit 60 c.well_formed.0 in
    let sum = to_z-of_z (fits.at n) in
    let w = to_z-of_z {w = w16} c.ranges.w in
    let x : to_z w16 (of_z w16 (entry c.args.line.now (n + c.args.k))) ≡ entry c.args.line.now (n + c.args.k) = search rules in
    subst (SFits w32)
    (tabulate-at (λ n. entry c.args.sums n +ℤ c.args.w *ℤ entry c.args.line.now (n + c.args.k)) 60 n (pos 0) c.loop-n-test.true
    ∙ sym (λ i. sum i +ℤ w i *ℤ x i))
    (c.requires.all_fit.at n)

pub loop-n-preserved : goal.loop-n-preserved
loop-n-preserved c =
    let n = c.loop-n.n in
    let fits : AllFit w32 c.args.sums = all_fit 60 c.well_formed.0 in
    let sum = to_z-of_z (fits.at n) in
    let x : to_z w16 (of_z w16 (entry c.args.line.now (n + c.args.k))) ≡ entry c.args.line.now (n + c.args.k) = search rules in
    fills_next c.loop-n.invariant c.loop-n-test.true
    (back w32 c.tap.type_inv (c.tap.ensures ∙ (λ i. sum i +ℤ to_z w16 (of_z w16 c.args.w) *ℤ x i)))

pub returns : goal.returns
returns c =
    let w = to_z-of_z {w = w16} c.ranges.w in
    fills_end c.loop-n.invariant c.loop-n-test.false
    ∙ (λ i. tabulate (λ n. entry c.args.sums n +ℤ w i *ℤ entry c.args.line.now (n + c.args.k)) 60)
