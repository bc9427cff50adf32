use Rattle.std.proofs.Common.{rules, pos, ◌∙◌}
use Rattle.integers.specs.Base.{tabulate}
use Rattle.integers.specs.FromFn.{from_fn_is}
use Rattle.lpc.proofs.Products.{summed, summed-coefficients}
use Rattle.lpc.proofs.lsp_to_lpc_q13.Goals as goal

pub returns : goal.returns
returns c =
    from_fn_is _ _ (summed c.expanded-pz.result c.expanded-qz.result) 10 (λ j y q lt k. search rules) (pos 0) c.from_fn.ensures.items
    ∙ (λ i. tabulate (summed (c.expanded-pz.ensures.value i) (c.expanded-qz.ensures.value i)) 10)
    ∙ summed-coefficients c.args.lsp
