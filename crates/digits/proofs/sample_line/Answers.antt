use Rattle.std.proofs.Common.{ap, ◌∙◌}
use Rattle.std.specs.List.{flat_map}
use Rattle.digits.proofs.Samples.{line_is}
use Rattle.digits.proofs.sample_line.Goals as goal

pub returns : goal.returns
returns c =
    line_is c.args.samples (c.copy_from_slice.ensures.after ∙ c.as_flattened.ensures.value ∙ ap (flat_map (λ ds. ds)) c.frame_digits.ensures)
