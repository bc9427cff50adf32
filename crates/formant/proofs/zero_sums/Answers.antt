use Rattle.std.proofs.Common.{◌≡◌, ◌+◌, ◌-◌, List, ℤ, ◌+ℤ◌, ◌*ℤ◌, sym, ap, ◌∙◌, subst, arith, to_z, of_z, to_z-of_z, ℕ}
use Rattle.std.specs.Int.{w16, w32}
use Rattle.integers.specs.Base.{entry, tabulate, AllFit}
use Rattle.integers.specs.Signed.{all_fit}
use Rattle.formant.proofs.Zeros.{sums, sums-start, sums_next, sums-fit}
use Rattle.formant.proofs.zero_sums.Goals as goal

-- with one product more, the coefficient being read from its bits
next-is : (w line : List ℤ) (j : ℕ) {l : List ℤ} → AllFit w16 w → l ≡ sums w line j →
    tabulate (λ n. entry l n +ℤ to_z w16 (of_z w16 (entry w j)) *ℤ entry line (n + (9 - j))) 60 ≡ sums w line (j + 1)
next-is w line j {l} f e =
    ap (λ (v : ℤ). tabulate (λ n. entry l n +ℤ v *ℤ entry line (n + (9 - j))) 60) (to_z-of_z (f.at j)) ∙ sums_next w line j e

pub loop-j-init : goal.loop-j-init
loop-j-init c = sums-start c.args.w c.args.line

pub tapped-next-requires : goal.tapped-next-requires
tapped-next-requires c =
    let fit : AllFit w16 c.args.line = all_fit 70 c.well_formed.1.0 in
    let next = next-is c.args.w c.args.line c.loop-j.j (all_fit 10 c.well_formed.0) c.loop-j.invariant in
    record {
      k_bound = omega arith;
      all_fit = subst (AllFit w32) (sym next) (sums-fit c.args.w c.args.line c.requires fit (c.loop-j.j + 1) (omega arith));
    }

pub loop-j-preserved : goal.loop-j-preserved
loop-j-preserved c = c.tapped-next.ensures ∙ next-is c.args.w c.args.line c.loop-j.j (all_fit 10 c.well_formed.0) c.loop-j.invariant
