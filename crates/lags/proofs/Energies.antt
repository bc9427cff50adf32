-- Laws of energies of samples that move by one.
use mathlib.Core.Path.{◌≡◌, sym, ap, ◌∙◌}
use mathlib.Core.List.{List}
use Prim.Native.Nat.{ℕ, ◌+◌, ◌-◌, ◌≤◌}
use native.Mathlib.Omega.{arith}
use lib.IntN.{ℤ, pos, ◌+ℤ◌, ◌*ℤ◌}
use lib.Signed.{◌≤ℤ◌}
use Rattle.integers.specs.Base.{sum_to, entry}
use Rattle.integers.specs.Linear.{line, line-add}
use Rattle.integers.specs.Sum.{sum_step, sum_first, sum_ext}
use Rattle.correlation.specs.Correlation.{correlation, energy}
use Rattle.correlation.proofs.Terms.{energy-nonneg}

abbrev pub square : List ℤ → ℕ → ℤ
square x i = entry x i *ℤ entry x i

module _ (x : List ℤ) (q : ℕ) where
  -- n samples at q and one more are the first and n samples at q + 1
  energy_shift : (n : ℕ) → energy x q n +ℤ square x (q + n) ≡ square x q +ℤ energy x (q + 1) n
  unfolding correlation
  energy_shift n =
      let f : ℕ → ℤ = λ i. square x (q + i) in
      let g : ℕ → ℤ = λ i. square x (q + 1 + i) in
      sym (sum_step f n) ∙ sum_first f n
      ∙ (λ k. square x (q + 0) +ℤ sum_ext (λ i. f (i + 1)) g n (λ i h. ap (square x) (omega arith)) k)
      ∙ ap (λ (j : ℕ). square x j +ℤ sum_to g n) (omega arith)

-- what is left of an energy e and a square s where another square t leaves it
left : (e s t : ℕ) (z : ℤ) → pos 0 ≤ℤ z → pos (e + s) ≡ pos t +ℤ z → (t ≤ e + s) × (pos (e + s - t) ≡ z)
left e s t z h k = omega (line, line-add (pos t) z)

module _ (x : List ℤ) (q n e s t : ℕ) where
  -- from q to q + 1, and back
  pub energy-ahead : pos e ≡ energy x q n → pos s ≡ square x (q + n) → pos t ≡ square x q → (t ≤ e + s) × (pos (e + s - t) ≡ energy x (q + 1) n)
  energy-ahead a b c =
      left e s t (energy x (q + 1) n) (energy-nonneg x (q + 1) n)
      ((λ i. a i +ℤ b i) ∙ energy_shift x q n ∙ (λ i. sym c i +ℤ energy x (q + 1) n))

  pub energy-back : pos e ≡ energy x (q + 1) n → pos s ≡ square x q → pos t ≡ square x (q + n) → (t ≤ e + s) × (pos (e + s - t) ≡ energy x q n)
  energy-back a b c =
      let shifted : pos s +ℤ pos e ≡ energy x q n +ℤ pos t = (λ i. b i +ℤ a i) ∙ sym (energy_shift x q n) ∙ (λ i. energy x q n +ℤ sym c i) in
      left e s t (energy x q n) (energy-nonneg x q n) (omega (line, line-add (pos t) (energy x q n), line-add (energy x q n) (pos t)))
