-- A divisor of one word leaves a quotient of two words, the high one first.
use Rattle.std.proofs.Common.{◌≡◌, ℕ, ◌+◌, ◌*◌, ◌/◌, ◌^◌, ap, ◌∙◌, arith}
use Rattle.wide.specs.Value.{value}
use Rattle.quotient.proofs.Estimates.{pair_quotient}
use Rattle.quotient.proofs.divide.Goals as goal

pub returns : goal.returns
returns c =
    let n = c.args.n in
    let v = c.args.d.lo in
    let is : v ≡ value c.args.d = omega arith in
    ap (λ (x : ℕ). n.hi / v * 2 ^ 64 + x) c.by_word.ensures ∙ pair_quotient (2 ^ 64) n.hi n.lo v (omega arith) ∙ ap (λ (x : ℕ). value n / x) is
