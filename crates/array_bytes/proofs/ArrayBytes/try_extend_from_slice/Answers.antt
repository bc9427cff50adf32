use Rattle.std.proofs.Common.{arith}
use Rattle.array_bytes.proofs.Writes.{padded_put}
use Rattle.array_bytes.proofs.ArrayBytes.try_extend_from_slice.Goals as goal

pub invariant_of-self : goal.invariant_of-self
invariant_of-self g c =
    padded_put c.self.invariant _ _ _ c.copy_from_slice.ensures.len (omega arith) (omega (arith, c.self.invariant.fits, c.if-self-part.false))
