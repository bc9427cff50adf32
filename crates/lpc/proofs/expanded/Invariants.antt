-- The product of the first k factors.
use Rattle.std.specs.Prelude.{◌≡◌}
use Rattle.integers.specs.Base.{tabulate}
use Rattle.lpc.specs.Lpc.{product}
use Rattle.lpc.proofs.Products.{factor_cosine}
use Rattle.lpc.proofs.expanded.Given as goal

abbrev pub invariant-loop-k : goal.invariant-loop-k
invariant-loop-k l = l.p ≡ tabulate (product (factor_cosine l.fn.lsp l.fn.first) l.k) 11
