-- Laws of a number limited to lo ..= hi.
use Rattle.std.specs.Prelude.{◌≡◌, refl, Bool, true, false, cond, ℤ, ◌≤ℤ◌}
use Rattle.std.proofs.Common.{sym, ap}
use Rattle.std.specs.Int.Signed.{lt_z, ≤ℤ_refl}
use Rattle.integers.specs.Base.{limited}
use Rattle.integers.specs.Linear.{line}

module _ (lo hi z : ℤ) where
  -- ---- its three cases: below lo, else above hi, else between

  pub limited-low : lt_z z lo ≡ true → lo ≡ limited lo hi z
  limited-low h = sym (ap (λ (b : Bool). cond b lo (cond (lt_z hi z) hi z)) h)

  pub limited-high : lt_z z lo ≡ false → lt_z hi z ≡ true → hi ≡ limited lo hi z
  limited-high h k = sym (λ i. cond (h i) lo (cond (k i) hi z))

  pub limited_id : lt_z z lo ≡ false → lt_z hi z ≡ false → z ≡ limited lo hi z
  limited_id h k = sym (λ i. cond (h i) lo (cond (k i) hi z))

  -- ---- its bounds

  pub limited_bounds : lo ≤ℤ hi → (lo ≤ℤ limited lo hi z) × (limited lo hi z ≤ℤ hi)
  limited_bounds o = low (lt_z z lo) (lt_z hi z) refl refl
    where
      low : (a b : Bool) → lt_z z lo ≡ a → lt_z hi z ≡ b → (lo ≤ℤ cond a lo (cond b hi z)) × (cond a lo (cond b hi z) ≤ℤ hi)
      low true b h k = (≤ℤ_refl lo, o)
      low false true h k = (o, ≤ℤ_refl hi)
      low false false h k = (omega line, omega line)
