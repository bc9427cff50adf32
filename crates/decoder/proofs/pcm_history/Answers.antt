use Rattle.std.proofs.Common.{rules, arith, ◌+◌, pos, drop, get_or, length-drop, get_or-drop, sym, ◌∙◌}
use Rattle.integers.specs.FromFn.{from_fn_is}
use Rattle.integers.specs.Fill.{entries_all, tabulate_ext}
use Rattle.decoder.proofs.pcm_history.Goals as goal

pub returns : goal.returns
returns c =
    let x = c.args.samples.now in
    from_fn_is _ _ (λ i. get_or x (120 + i) (pos 0)) _ (λ i y q lt k. search rules) (pos 0) c.from_fn.ensures.items
    ∙ tabulate_ext _ _ 120 (λ i lt. sym (get_or-drop 120 x i (pos 0)))
    ∙ entries_all (pos 0) (drop 120 x) 120 (omega (arith, length-drop 120 x, c.told-samples))
