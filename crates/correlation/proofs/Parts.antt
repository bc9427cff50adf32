-- A number as its floored 65536th and what that leaves, and sums of both.
use mathlib.Core.Path.{◌≡◌, refl}
use Prim.Native.Nat.{ℕ, zero, suc, ◌^◌}
use native.Mathlib.Omega.{arith}
use lib.Dec.{lit≤}
use lib.IntN.{ℤ, pos, ◌+ℤ◌, ◌-ℤ◌, ◌*ℤ◌}
use mir.Syntax.{w32}
use mir.Val.{SFits}
use Rattle.integers.specs.Base.{floor_div, sum_to, Within}
use Rattle.integers.specs.Bound.{within-shr-by, within-fits}
use Rattle.integers.specs.Linear.{line, line-add, line-sub, line-mul, line-shr, distance_le}

abbrev pub high : ℤ → ℤ
high z = floor_div z 65536

abbrev pub low : ℤ → ℤ
low z = z -ℤ high z *ℤ pos 65536

pub high-within : (z : ℤ) → SFits w32 z → Within (2 ^ 15) (high z)
high-within z f = within-shr-by (2 ^ 15) 65536 (lit≤ tt) (within-fits f)

pub low-within : (z : ℤ) → Within (2 ^ 16) (low z)
low-within z = record {
  within =
      let f = line-shr z 65536 (lit≤ tt) in
      distance_le z (high z *ℤ pos 65536) (2 ^ 16) (omega (arith, line-mul (high z) 65536)) (omega (arith, line-mul (high z) 65536));
}

-- the sum is made up of the sums of both parts
pub parts_sum : (f : ℕ → ℤ) (n : ℕ) → sum_to (λ i. high (f i)) n *ℤ pos 65536 +ℤ sum_to (λ i. low (f i)) n ≡ sum_to f n
unfolding sum_to
parts_sum f zero = refl
parts_sum f (suc n) =
    let h = sum_to (λ i. high (f i)) n in
    let l = sum_to (λ i. low (f i)) n in
    joined h l (high (f n)) (f n) (sum_to f n) (parts_sum f n)
  where
    joined : (h l a z s : ℤ) → h *ℤ pos 65536 +ℤ l ≡ s → (h +ℤ a) *ℤ pos 65536 +ℤ (l +ℤ (z -ℤ a *ℤ pos 65536)) ≡ s +ℤ z
    joined h l a z s e =
        let k = z -ℤ a *ℤ pos 65536 in
        omega (
          line,
          line-mul h 65536,
          line-mul a 65536,
          line-mul (h +ℤ a) 65536,
          line-add h a,
          line-add l k,
          line-sub z (a *ℤ pos 65536),
          line-add (h *ℤ pos 65536) l,
          line-add s z,
          line-add ((h +ℤ a) *ℤ pos 65536) (l +ℤ k),
        )
