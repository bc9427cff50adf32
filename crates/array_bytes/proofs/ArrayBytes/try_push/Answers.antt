use Rattle.std.proofs.Common.{arith}
use Rattle.array_bytes.proofs.Writes.{padded_set}
use Rattle.array_bytes.proofs.ArrayBytes.try_push.Goals as goal

pub invariant_of-self : goal.invariant_of-self
invariant_of-self g c = padded_set c.self.invariant _ (omega (arith, c.self.invariant.fits))
