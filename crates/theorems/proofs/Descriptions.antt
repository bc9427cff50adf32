-- Numbers 8 to 10 refuse every description that is not accepted; a block's fixed vector is defined as its description's.
use mathlib.Core.Path.{refl}
use Rattle.record.specs.Record.{block_of}
use Rattle.excitation.specs.declared.Rate.TheVariants.{High}
use Rattle.layout.specs.Layout.{fields_of}
use Rattle.theorems.proofs.Accepted.{received_passed, accepted-description}
use Rattle.theorems.specs.Descriptions.{AcceptedDescriptions}

pub accepted_descriptions : AcceptedDescriptions
unfolding block_of
accepted_descriptions r form e k = (accepted-description (fields_of form r) (received_passed r High form e) k, refl)
