-- What is attenuated has a gain's type.
use Rattle.std.proofs.Common.{ℕ, zero, suc, ◌*◌, ◌≤◌, ℤ, pos, negsuc, ◌*ℤ◌, neg_ℤ, le_refl, lt_of_le_of_lt, mul-le-mul, arith, SFits}
use lib.Signed.{mag}
use mir.Syntax.{Width}
use Rattle.integers.specs.Base.{floor_div}
use Rattle.noise.specs.Noise.{attenuation, attenuated}
use Rattle.noise.proofs.Attenuation.{attenuation-most}

-- a factor of at most 1 in 32768ths
mag_lessened : (g : ℤ) (a : ℕ) → a ≤ 32768 → mag (floor_div (g *ℤ pos a) 32768) ≤ mag g
mag_lessened (pos n) a h = omega (arith, mul-le-mul (le_refl n) h)
mag_lessened (negsuc n) a h = negated (suc n * a) (omega (arith, mul-le-mul (le_refl (suc n)) h))
  where
    negated : (k : ℕ) → k ≤ suc n * 32768 → mag (floor_div (neg_ℤ (pos k)) 32768) ≤ n
    negated zero q = omega arith
    negated (suc k) q = omega arith

pub attenuated-fits : {w : Width} (g : ℤ) (run : ℕ) → SFits w g → SFits w (attenuated g run)
attenuated-fits g run f = record {
  sfits = lt_of_le_of_lt (mag_lessened g (attenuation run) (attenuation-most run)) f.sfits;
}
