-- Interpolating by the operators never saturates, so that it is the weighted mean, rounded.
use mathlib.Core.Path.{◌≡◌, ap, ◌∙◌}
use mathlib.Core.List.{List}
use Prim.Native.Nat.{ℕ, ◌+◌, ◌*◌, ◌≤◌}
use native.Mathlib.Nat.{mul-le-mul_right}
use native.Mathlib.Omega.{arith}
use lib.Dec.{lit≤}
use lib.IntN.{ℤ, pos, negsuc, ◌+ℤ◌, ◌*ℤ◌}
use lib.Signed.{◌≤ℤ◌}
use mir.Syntax.{w16, w32}
use mir.Val.{SFits}
use Rattle.integers.specs.Base.{floor_div, entry, tabulate, AllFit, up, down}
use Rattle.integers.specs.Linear.{line, mul_pos, line-add, line-mul, line-shr, line-fits, fits-between}
use Rattle.integers.specs.Fill.{tabulate_ext}
use Rattle.integers.specs.Saturation.{saturated-same}
use Rattle.tables.specs.Constants.{quarter}
use Rattle.basicop32.specs.Operators32.{word32, mult32, mac32, rounded16}
use Rattle.lsp.specs.Lsps.{weighted_mean, blend}

-- a multiple of a 16-bit number
record Part (a : ℕ) (z : ℤ) : Type 0 where
  pub high : up z ≤ down z + 32767 * a
  pub low : down z ≤ up z + 32768 * a

part : (z : ℤ) (a : ℕ) → SFits w16 z → Part a (z *ℤ pos a)
part z a f =
    let u : up z * a ≤ 32767 * a = mul-le-mul_right a (omega (arith, line-fits z f)) in
    let d : down z * a ≤ 32768 * a = mul-le-mul_right a (omega (arith, line-fits z f)) in
    record { high = omega (arith, line-mul z a); low = omega (arith, line-mul z a) }

-- as l_mult has it: times a quarter of 32768, and times two
scaled : ℤ → ℤ
scaled z = z *ℤ pos quarter *ℤ pos 2

line-scaled : (z : ℤ) → up (scaled z) + 16384 * down z ≡ down (scaled z) + 16384 * up z
unfolding scaled
line-scaled z = omega (arith, line-mul z quarter, line-mul (z *ℤ pos quarter) 2)

mult32-part : (z : ℤ) (a : ℕ) → a ≤ 4 → SFits w16 z → mult32 z (pos (a * quarter)) ≡ scaled (z *ℤ pos a)
unfolding scaled
mult32-part z a h f =
    let x = z *ℤ pos a in
    let b = part z a f in
    let s = line-scaled x in
    ap (λ (v : ℤ). word32 (v *ℤ pos 2)) (mul_pos z a quarter)
    ∙ saturated-same {w = w32} 2147483647 (fits-between 2147483647 (scaled x) (omega (line, s, b.low)) (omega (line, s, b.high)) tt) tt

-- the sum of two parts that are four together
module _ (a b : ℕ) (four : a + b ≡ 4) (x y : ℤ) (p : Part a x) (q : Part b y) where
  sum : ℤ
  sum = scaled x +ℤ scaled y

  line-sum : up sum + 16384 * (down x + down y) ≡ down sum + 16384 * (up x + up y)
  unfolding sum
  line-sum = omega (arith, line-add (scaled x) (scaled y), line-scaled x, line-scaled y)

  -- from -2 ^ 31 on, and at most 2 ^ 31 - 2 ^ 16
  sum_low : negsuc 2147483647 ≤ℤ sum
  sum_low = omega (line, line-sum, p.low, q.low)

  sum-high : sum ≤ℤ pos 2147418112
  sum-high = omega (line, line-sum, p.high, q.high)

  sum_fits : SFits w32 sum
  sum_fits = fits-between 2147483647 sum sum_low (omega (line, sum-high)) tt

  half-fits : SFits w32 (sum +ℤ pos 32768)
  half-fits = let e = line-add sum (pos 32768) in fits-between 2147483647 (sum +ℤ pos 32768) (omega (line, e, sum_low)) (omega (line, e, sum-high)) tt

  rounded-sum : rounded16 (word32 sum) ≡ floor_div (x +ℤ y +ℤ pos 2) 4
  rounded-sum =
      ap (λ (z : ℤ). rounded16 z) (saturated-same 2147483647 sum_fits tt)
      ∙ ap (λ (z : ℤ). floor_div z 65536) (saturated-same 2147483647 half-fits tt)
      ∙ omega (line, line-sum, line-add sum (pos 32768), line-add x y, line-add (x +ℤ y) (pos 2), line-shr (sum +ℤ pos 32768) 65536 (lit≤ tt), line-shr (x +ℤ y +ℤ pos 2) 4 (lit≤ tt))

module _ (a b : ℕ) (four : a + b ≡ 4) where
  mean-operators : (p c : ℤ) → SFits w16 p → SFits w16 c → rounded16 (mac32 (mult32 p (pos (a * quarter))) c (pos (b * quarter))) ≡ weighted_mean a b p c
  unfolding sum
  mean-operators p c f g =
      let k : a ≤ 4 = omega arith in
      let m : b ≤ 4 = omega arith in
      (λ i. rounded16 (word32 (mult32-part p a k f i +ℤ mult32-part c b m g i))) ∙ rounded-sum a b four (p *ℤ pos a) (c *ℤ pos b) (part p a f) (part c b g)

  pub blend-operators : (p c : List ℤ) → AllFit w16 p → AllFit w16 c → tabulate (λ i. rounded16 (mac32 (mult32 (entry p i) (pos (a * quarter))) (entry c i) (pos (b * quarter)))) 10 ≡ blend a b p c
  blend-operators p c f g = tabulate_ext _ _ 10 (λ i h. mean-operators (entry p i) (entry c i) (f.at i) (g.at i))
