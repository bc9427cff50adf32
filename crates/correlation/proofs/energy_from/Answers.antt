use Rattle.std.proofs.Common.{◌≡◌, ℕ, ◌-◌, ◌*◌, ◌^◌, ◌≤◌, ◌<◌, List, length, ℤ, pos, sym, ◌∙◌, subst, arith, to_z, of_z}
use Rattle.std.specs.Prelude.{min, nat_abs}
use Rattle.std.specs.Int.{w64}
use Rattle.std.specs.Int.Signed.{mag, non_neg}
use native.Mathlib.Nat.{mul-le-mul_right}
use lib.Dec.{T}
use lib.Signed.{◌≤ℤ◌}
use Rattle.integers.specs.Base.{Within}
use Rattle.integers.specs.Bound.{within-le}
use Rattle.integers.specs.Signed.{back, read_back, natural}
use Rattle.correlation.specs.Correlation.{correlation, energy}
use Rattle.correlation.proofs.Terms.{correlation_reach, reach_or_end, energy-nonneg}
use Rattle.correlation.proofs.energy_from.Goals as goal

-- the sum of squares as the code has it: it is not negative, it is the energy, and it has a bound
record Measured (x : List ℤ) (a n : ℕ) (z : ℤ) : Type 0 where
  pub sign : T (non_neg z)
  pub size : pos (nat_abs z) ≡ z
  pub is : z ≡ energy x a n
  pub small : Within (n * 2 ^ 30) z

measured : (x : List ℤ) (a n k : ℕ) (s : ℤ) → k ≡ min n (length x - a) → mag s < 2 ^ 63 → s ≡ correlation x a x a k → Within (k * 2 ^ 30) s →
    Measured x a n (to_z w64 (of_z w64 s))
measured x a n k s e h v w =
    let few : k ≤ n = omega arith in
    let l = length x - a in
    let all = reach_or_end n k l l (omega arith) in
    let is = back w64 h (v ∙ correlation_reach x a x a k n few all) in
    let number = natural (to_z w64 (of_z w64 s)) (subst (λ (z : ℤ). pos 0 ≤ℤ z) (sym is) (energy-nonneg x a n)) in
    record {
      sign = number.0;
      size = number.1;
      is = is;
      small = subst (Within (n * 2 ^ 30)) (sym (read_back w64 s h)) (within-le w (mul-le-mul_right (2 ^ 30) few));
    }

pub overflow_cast-result : goal.overflow_cast-result
overflow_cast-result c =
    let s = c.sum_of_products in
    let m = measured c.args.x.now c.args.a c.args.n c.reach-m.result s.result (omega arith) s.type_inv s.ensures.value s.ensures.within in
    (m.sign, record { fits = omega (arith, m.small.within) })

pub returns : goal.returns
returns c =
    let s = c.sum_of_products in
    let m = measured c.args.x.now c.args.a c.args.n c.reach-m.result s.result (omega arith) s.type_inv s.ensures.value s.ensures.within in
    record { result_value = m.size ∙ m.is; upper_bound = m.small.within }
