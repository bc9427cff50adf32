use Rattle.std.proofs.Common.{rules, pos, ◌∙◌}
use Rattle.integers.specs.FromFn.{from_fn_is}
use Rattle.synthesis.specs.Synthesis.{excited}
use Rattle.synthesis.proofs.Samples.{same_subframe, same_memory, read_sixty}
use Rattle.synthesis.proofs.Inputs.{from_fn_within}
use Rattle.synthesis.proofs.synthesis_subframe.Goals as goal

pub driven_subframe-requires : goal.driven_subframe-requires
driven_subframe-requires c = from_fn_within _ _ _ _ (λ n y q lt k. search rules) c.from_fn-v.ensures.items

pub returns : goal.returns
returns c =
    let v = read_sixty (excited c.args.x.now) (from_fn_is _ _ _ 60 (λ n y q lt k. search rules) (pos 0) c.from_fn-v.ensures.items) in
    record {
      out_value = c.driven_subframe.ensures.out_value ∙ same_subframe c.args.a c.args.mem v;
      mem_value = c.driven_subframe.ensures.mem_value ∙ same_memory c.args.a c.args.mem v;
    }
