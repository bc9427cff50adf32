use Rattle.std.specs.Prelude.{◌≡◌, ℕ, ◌+◌, ◌*◌}
use Rattle.std.specs.Int.{w16}
use Rattle.std.proofs.Common.{ap, ◌∙◌, arith, rules, to_z, of_z}
use Rattle.integers.specs.Base.{entry, tabulate}
use Rattle.integers.specs.Signed.{all_fit}
use Rattle.lpc.specs.Lpc.{cosine, times_factor, product}
use Rattle.lpc.proofs.Products.{product-zero, product-step, polynomial-within, factor_cosine}
use Rattle.lpc.proofs.expanded.Goals as goal

pub loop-k-init : goal.loop-k-init
loop-k-init c = product-zero (factor_cosine c.args.lsp c.args.first)

pub times_factor-p-requires : goal.times_factor-p-requires
times_factor-p-requires c = rw c.loop-k.invariant (polynomial-within c.args.lsp (all_fit 10 c.well_formed.0) c.args.first c.loop-k.k (omega arith))

pub loop-k-preserved : goal.loop-k-preserved
loop-k-preserved c =
    let e : to_z w16 (of_z w16 c.cos_q14.result) ≡ cosine (entry c.args.lsp (2 * c.loop-k.k + c.args.first)) = search rules in
    c.times_factor-p.ensures
    ∙ (λ i. tabulate (times_factor (entry (c.loop-k.invariant i)) (e i)) 11)
    ∙ product-step (factor_cosine c.args.lsp c.args.first) c.loop-k.k 11

pub returns : goal.returns
returns c =
    let r = factor_cosine c.args.lsp c.args.first in
    let e : c.loop-k.p ≡ tabulate (product r 5) 11 = c.loop-k.invariant ∙ ap (λ (k : ℕ). tabulate (product r k) 11) (omega arith) in
    record { value = e; bounded = rw e (polynomial-within c.args.lsp (all_fit 10 c.well_formed.0) c.args.first 5 (omega arith)) }
