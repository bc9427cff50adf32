-- One place further, and one place back.
use Rattle.std.proofs.Common.{◌≡◌, List, ℕ, ◌+◌, ◌-◌, ◌≤◌, ◌<◌, ℤ, pos, sym, ap, ◌∙◌, arith}
use Rattle.correlation.specs.Correlation.{energy}
use Rattle.lags.specs.Search.{next}
use Rattle.lags.specs.declared.Direction.{Direction}
use Rattle.lags.proofs.Energies.{square, energy-ahead, energy-back}
use Rattle.lags.proofs.moved_energy.Goals as goal

pub overflow_sub-result : goal.overflow_sub-result
overflow_sub-result c = (energy-ahead c.args.x.now c.args.q 60 c.args.e c.square_at.result c.square_at-in-Forward.result c.requires.e_value c.square_at.ensures.result_value c.square_at-in-Forward.ensures.result_value).0

pub returns-in-Forward-clause-result_value : goal.returns-in-Forward-clause-result_value
returns-in-Forward-clause-result_value c =
    (energy-ahead c.args.x.now c.args.q 60 c.args.e c.square_at.result c.square_at-in-Forward.result c.requires.e_value c.square_at.ensures.result_value c.square_at-in-Forward.ensures.result_value).1
    ∙ sym (ap (λ (to : Direction). energy c.args.x.now (next to c.args.q) 60) c.in-Forward.is)

-- the samples at q are those at q - 1 + 1
behind : (x : List ℤ) (q e s t : ℕ) → 0 < q → pos e ≡ energy x q 60 → pos s ≡ square x (q - 1) → pos t ≡ square x (q + 59) → (t ≤ e + s) × (pos (e + s - t) ≡ energy x (q - 1) 60)
behind x q e s t h a b d =
    let here : q ≡ q - 1 + 1 = omega arith in
    let last : q + 59 ≡ q - 1 + 60 = omega arith in
    energy-back x (q - 1) 60 e s t (a ∙ ap (λ (n : ℕ). energy x n 60) here) b (d ∙ ap (square x) last)

pub overflow_sub-result-in-Backward : goal.overflow_sub-result-in-Backward
overflow_sub-result-in-Backward c =
    (behind c.args.x.now c.args.q c.args.e c.square_at-in-Backward.result c.square_at-in-Backward-2.result c.requires.q_nonzero.0 c.requires.e_value
    c.square_at-in-Backward.ensures.result_value c.square_at-in-Backward-2.ensures.result_value).0

pub returns-in-Backward-clause-result_value : goal.returns-in-Backward-clause-result_value
returns-in-Backward-clause-result_value c =
    (behind c.args.x.now c.args.q c.args.e c.square_at-in-Backward.result c.square_at-in-Backward-2.result c.requires.q_nonzero.0 c.requires.e_value
    c.square_at-in-Backward.ensures.result_value c.square_at-in-Backward-2.ensures.result_value).1
    ∙ sym (ap (λ (to : Direction). energy c.args.x.now (next to c.args.q) 60) c.in-Backward.is)
