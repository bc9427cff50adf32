use Rattle.std.proofs.Common.{ℕ, ◌+◌, ◌^◌, ◌<◌, List, ℤ, ◌+ℤ◌, ◌*ℤ◌, SFits, sym, ◌∙◌, subst, arith, to_z-of_z}
use Rattle.std.specs.Int.{w16, w64}
use Rattle.integers.specs.Base.{entry, sum_to, AllFit}
use Rattle.integers.specs.Bound.{within-mul, within-fits, fits-within}
use Rattle.integers.specs.Signed.{widen, all_fit}
use Rattle.integers.specs.Expression.{is_arg, is-result, is_mul, is-add, need_mul, need_add}
use Rattle.integers.specs.Sum.{sum-zero, sum_step, within-sum-to}
use Rattle.synthesis.proofs.predicted.Goals as goal

module _ {a mem : List ℤ} (f : AllFit w16 a) (g : AllFit w16 mem) (j : ℕ) where
  product-fits : SFits w64 (entry a j *ℤ entry mem j)
  product-fits = fits-within (within-mul (within-fits (f.at j)) (within-fits (g.at j))) tt

  sum-fits : j < 10 → SFits w64 (sum_to (λ i. entry a i *ℤ entry mem i) j +ℤ entry a j *ℤ entry mem j)
  sum-fits h =
      let terms : ℕ → ℤ = λ i. entry a i *ℤ entry mem i in
      let each = within-sum-to terms (2 ^ 30) 10 (λ i. within-mul (within-fits (f.at i)) (within-fits (g.at i))) (j + 1) (omega arith) in
      subst (SFits w64) (sum_step terms j) (fits-within each tt)

pub loop-j-init : goal.loop-j-init
loop-j-init c = sym (sum-zero _)

pub overflow_mul-acc : goal.overflow_mul-acc
overflow_mul-acc c =
    let f : AllFit w16 c.args.a = all_fit 10 c.well_formed.0 in
    let coefficient = is-result w64 c.from.result c.from.type_inv (c.from.ensures ∙ to_z-of_z (f.at c.loop-j.j)) in
    need_mul coefficient (is_arg (widen (c.requires.at c.loop-j.j) tt)) (product-fits f c.requires c.loop-j.j)

pub overflow_add-acc : goal.overflow_add-acc
overflow_add-acc c =
    let f : AllFit w16 c.args.a = all_fit 10 c.well_formed.0 in
    let coefficient = is-result w64 c.from.result c.from.type_inv (c.from.ensures ∙ to_z-of_z (f.at c.loop-j.j)) in
    let product = is_mul coefficient (is_arg (widen (c.requires.at c.loop-j.j) tt)) (product-fits f c.requires c.loop-j.j) in
    need_add (record { is = c.loop-j.invariant }) product (sum-fits f c.requires c.loop-j.j (omega arith))

pub loop-j-preserved : goal.loop-j-preserved
loop-j-preserved c =
    let f : AllFit w16 c.args.a = all_fit 10 c.well_formed.0 in
    let coefficient = is-result w64 c.from.result c.from.type_inv (c.from.ensures ∙ to_z-of_z (f.at c.loop-j.j)) in
    let product = is_mul coefficient (is_arg (widen (c.requires.at c.loop-j.j) tt)) (product-fits f c.requires c.loop-j.j) in
    (is-add (record { is = c.loop-j.invariant }) product (sum-fits f c.requires c.loop-j.j (omega arith))).is ∙ sym (sum_step _ c.loop-j.j)
