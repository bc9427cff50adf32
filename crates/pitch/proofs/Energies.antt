-- Laws of energies of one sample more.
use mathlib.Core.Path.{◌≡◌, sym, ap, ◌∙◌}
use mathlib.Core.List.{List}
use Prim.Native.Nat.{ℕ, ◌+◌}
use lib.IntN.{ℤ, pos, nat_abs, ◌+ℤ◌}
use Rattle.integers.specs.Base.{entry}
use Rattle.integers.specs.Sum.{sum-zero, sum_step}
use Rattle.correlation.specs.Correlation.{correlation, energy}
use Rattle.lags.proofs.Squares.{square-natural}
use Rattle.lags.proofs.Energies.{square}

module _ (x : List ℤ) (q : ℕ) where
  pub energy-zero : pos 0 ≡ energy x q 0
  unfolding correlation
  energy-zero = sym (sum-zero (λ i. square x (q + i)))

  energy-step : (n : ℕ) → energy x q (n + 1) ≡ energy x q n +ℤ square x (q + n)
  unfolding correlation
  energy-step n = sum_step (λ i. square x (q + i)) n

  pub energy-next : (n e j : ℕ) → j ≡ q + n → pos e ≡ energy x q n → pos (e + nat_abs (square x j)) ≡ energy x q (n + 1)
  energy-next n e j k h = (λ i. h i +ℤ ((square-natural (entry x j)).1 ∙ ap (square x) k) i) ∙ sym (energy-step n)
