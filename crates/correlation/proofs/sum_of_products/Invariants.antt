use Rattle.std.proofs.Common.{◌^◌}
use Rattle.integers.specs.Base.{sum_to}
use Rattle.correlation.proofs.Parts.{high, low}
use Rattle.correlation.proofs.Terms.{term, Summed}
use Rattle.correlation.proofs.sum_of_products.Given as goal

-- the sums of both parts so far, and what the sum of the products is within
abbrev pub invariant-loop-i : goal.invariant-loop-i
invariant-loop-i l =
    Summed (2 ^ 15) (λ k. high (term l.x l.a l.y l.b k)) l.high l.i
    × Summed (2 ^ 16) (λ k. low (term l.x l.a l.y l.b k)) l.low l.i
    × Summed (2 ^ 30) (term l.x l.a l.y l.b) (sum_to (term l.x l.a l.y l.b) l.i) l.i
