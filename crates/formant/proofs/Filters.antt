-- The inputs of the filter, where each stands, and what its poles get.
use mathlib.Core.Path.{◌≡◌, refl, ap, ◌∙◌}
use mathlib.Core.List.{List}
use Prim.Native.Nat.{ℕ, zero, suc, ◌+◌, ◌<◌}
use native.Mathlib.Omega.{arith}
use lib.IntN.{ℤ, pos, ◌-ℤ◌, ◌*ℤ◌}
use Rattle.integers.specs.Base.{entry, tabulate}
use Rattle.synthesis.specs.Synthesis.{prediction, difference}
use Rattle.synthesis.proofs.Samples.{read_sixty}
use Rattle.formant.specs.Formant.{zeros, inputs, after_zeros}

-- with what the zeros predict read from a list
pub predictions_read : (a y num : List ℤ) {l : List ℤ} → l ≡ tabulate (λ n. prediction (zeros a) (inputs y num n)) 60 →
    (n : ℕ) → n < 60 → difference y l n ≡ after_zeros a y num n
predictions_read a y num e n h =
    ap (λ (z : ℤ). entry y n *ℤ pos 8192 -ℤ z) (read_sixty (λ n. prediction (zeros a) (inputs y num n)) e n h)

module _ (y memory : List ℤ) where
  pub inputs-zero : inputs y memory 0 ≡ memory
  unfolding inputs
  inputs-zero = refl

  -- an input stands k places further back k samples later
  pub inputs_shift : (n k i m j : ℕ) → m ≡ k + n → j ≡ k + i → entry (inputs y memory m) j ≡ entry (inputs y memory n) i
  unfolding inputs
  inputs_shift n zero i m j e f = let p : m ≡ n = omega arith in let q : j ≡ i = omega arith in λ t. entry (inputs y memory (p t)) (q t)
  inputs_shift n (suc k) i m j e f =
      let p : m ≡ suc (k + n) = omega arith in
      let q : j ≡ suc (k + i) = omega arith in
      (λ t. entry (inputs y memory (p t)) (q t)) ∙ inputs_shift n k i (k + n) (k + i) refl refl

  pub inputs-newest : (n : ℕ) → entry (inputs y memory (suc n)) 0 ≡ entry y n
  unfolding inputs
  inputs-newest n = refl
