-- The attenuation as the Rust computes it: each frame has 3/4 of the one before, until mute.
use Rattle.std.proofs.Common.{◌≡◌, ℕ, zero, suc, ◌*◌, ◌/◌, ◌<◌, ◌≤◌, refl, arith, lit≤}
use Rattle.tables.specs.Constants.{erasure_attenuation, erasure_mute_after}
use Rattle.noise.specs.Noise.{attenuation}

pub attenuation-next : (n : ℕ) → n < erasure_mute_after → attenuation (suc n) ≡ attenuation n * erasure_attenuation / 32768
attenuation-next zero h = refl
attenuation-next (suc zero) h = refl
attenuation-next (suc (suc zero)) h = refl
attenuation-next (suc (suc (suc n))) h = absurd (let z : ⊥ = omega arith in z)

pub attenuation_mute : (n : ℕ) → erasure_mute_after < n → attenuation n ≡ 0
attenuation_mute zero h = absurd (let z : ⊥ = omega arith in z)
attenuation_mute (suc zero) h = absurd (let z : ⊥ = omega arith in z)
attenuation_mute (suc (suc zero)) h = absurd (let z : ⊥ = omega arith in z)
attenuation_mute (suc (suc (suc zero))) h = absurd (let z : ⊥ = omega arith in z)
attenuation_mute (suc (suc (suc (suc n)))) h = refl

pub attenuation-most : (n : ℕ) → attenuation n ≤ 32768
attenuation-most zero = lit≤ tt
attenuation-most (suc zero) = lit≤ tt
attenuation-most (suc (suc zero)) = lit≤ tt
attenuation-most (suc (suc (suc zero))) = lit≤ tt
attenuation-most (suc (suc (suc (suc n)))) = lit≤ tt
