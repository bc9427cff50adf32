-- The quotient is of one word.
use Rattle.std.proofs.Common.{◌≡◌, ℕ, ◌+◌, ◌*◌, ◌/◌, ◌^◌, ◌≤◌, sym, ap, ◌∙◌, subst, zero-add, arith}
use Rattle.isqrt.specs.Root.{root}
use Rattle.pitch.proofs.Sizes.{ratio_most, root-most}
use Rattle.pitch.proofs.level_q15.Goals as goal

one_word : (t e hi lo : ℕ) → t ≤ e → hi * 2 ^ 64 + lo ≡ t * 2 ^ 30 / e → lo ≡ t * 2 ^ 30 / e
one_word t e hi lo h r = omega (arith, r, ratio_most t e h)

pub returns-clause-value : goal.returns-clause-value
returns-clause-value c =
    let q = c.divide-ratio.result in
    c.isqrt64.ensures ∙ ap root (one_word c.args.t c.args.e q.hi q.lo c.requires (c.divide-ratio.ensures ∙ (λ i. c.product.ensures i / zero-add c.args.e i)))

pub returns-clause-upper_bound : goal.returns-clause-upper_bound
returns-clause-upper_bound c =
    let q = c.divide-ratio.result in
    let r = c.isqrt64.ensures ∙ ap root (one_word c.args.t c.args.e q.hi q.lo c.requires (c.divide-ratio.ensures ∙ (λ i. c.product.ensures i / zero-add c.args.e i))) in
    subst (λ (n : ℕ). n ≤ 2 ^ 15) (sym r) (root-most (c.args.t * 2 ^ 30 / c.args.e) (ratio_most c.args.t c.args.e c.requires))
