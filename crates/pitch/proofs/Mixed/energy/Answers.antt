use Rattle.std.proofs.Common.{◌≡◌, ℕ, ◌+◌, ℤ, pos, nat_abs, ◌*ℤ◌, sym, ap, ◌∙◌, zero-add, arith, rules, w32, to_z, of_z}
use Rattle.integers.specs.Base.{entry}
use Rattle.pitch.proofs.Energies.{energy-zero, energy-next}
use Rattle.pitch.proofs.Mixed.energy.Goals as goal

pub loop-z-init : goal.loop-z-init
loop-z-init c = record { sum = energy-zero c.args.self.now.samples 0; bound = omega arith }

pub loop-z-preserved : goal.loop-z-preserved
loop-z-preserved c =
    let v = c.args.self.now.samples in
    let n = c.loop-z.z-index in
    let read : to_z w32 (of_z w32 (entry v n)) ≡ entry v n = search rules in
    record {
      sum = ap (λ (k : ℕ). pos (c.loop-z.e + k)) (c.square-e.ensures.value ∙ ap (λ (z : ℤ). nat_abs (z *ℤ z)) read) ∙ energy-next v 0 n c.loop-z.e n (sym (zero-add n)) c.loop-z.invariant.sum;
      bound = omega (arith, c.loop-z.invariant.bound, c.square-e.ensures.upper_bound);
    }
