-- Laws of the interpolated cosine: its size, and that none of the operators that make it saturates.
use mathlib.Core.Path.{◌≡◌, refl, ap, ◌∙◌, subst}
use mathlib.Core.Bool.{true, false}
use Prim.Native.Nat.{ℕ, ◌+◌, ◌*◌, ◌/◌, ◌%◌, ◌^◌, ◌≤◌, ◌<◌}
use native.Mathlib.Omega.{arith}
use lib.Dec.{lit≤}
use lib.IntN.{ℤ, pos, negsuc, nat_abs, ◌+ℤ◌, ◌-ℤ◌, ◌*ℤ◌}
use lib.Signed.{lt_z}
use mir.Syntax.{w16}
use mir.Val.{SFits}
use Rattle.integers.specs.Base.{floor_div, entry, up, Within}
use Rattle.integers.specs.Bound.{fits-within, within-add, within-mul, within-le, within-shr-by}
use Rattle.integers.specs.Natural.{none-below-zero}
use Rattle.integers.specs.Signed.{natural}
use Rattle.integers.specs.Linear.{mul_pos, line, line-mul, line-shr, line-fits}
use Rattle.integers.specs.Saturation.{saturated-same}
use Rattle.tables.specs.Tables.{cosines}
use Rattle.tables.proofs.Rules.{cosine_rule}
use Rattle.basicop.specs.Operators.{word16, add16, sub16, mult16, shl16}
use Rattle.lpc.specs.Lpc.{cosine_between, cosine}

-- ---- a negative LSP is read as 0

pub up-negative : (z : ℤ) → lt_z z (pos 0) ≡ true → 0 ≡ up z
up-negative (pos n) h = none-below-zero n h
up-negative (negsuc n) h = refl

pub up-nonneg : (z : ℤ) → lt_z z (pos 0) ≡ false → nat_abs z ≡ up z
up-nonneg z h = (natural z (omega line)).2

-- ---- sizes

-- the entries that an LSP is between
pub index : (f : ℤ) → SFits w16 f → up f / 128 ≤ 255
index f h = omega (arith, line-fits f h)

next-within : (i : ℕ) → i ≤ 255 → Within 201 (entry cosines (i + 1) -ℤ entry cosines i)
next-within i h =
    let e : (i + 1) % 512 ≡ i + 1 = omega arith in
    subst (λ (k : ℕ). Within 201 (entry cosines k -ℤ entry cosines i)) e (cosine_rule i (omega arith)).next

module _ (d : ℤ) (r : ℕ) (s : Within 201 d) (h : r < 128) where
  pub step-within : Within 201 (floor_div (d *ℤ pos r) 128)
  step-within = within-shr-by 201 128 (lit≤ tt) (within-le (within-mul {B = 128} s (record { within = omega arith })) (omega arith))

pub cosine-between-within : (i r : ℕ) → i ≤ 255 → r < 128 → Within 16585 (cosine_between i r)
cosine-between-within i r h k = within-add (cosine_rule i (omega arith)).size (step-within (entry cosines (i + 1) -ℤ entry cosines i) r (next-within i h) k)

pub cosine-within : (f : ℤ) → SFits w16 f → Within 16585 (cosine f)
cosine-within f h = cosine-between-within (up f / 128) (up f % 128) (index f h) (omega arith)

-- ---- the operators

floor_256 : (z : ℤ) → floor_div (z *ℤ pos 256) (2 ^ 15) ≡ floor_div z 128
floor_256 z = omega (line, line-mul z 256, line-shr (z *ℤ pos 256) 32768 (lit≤ tt), line-shr z 128 (lit≤ tt))

module _ (b n : ℤ) (r : ℕ) (size : Within 16384 b) (near : Within 201 (n -ℤ b)) (h : r < 128) where
  moved : mult16 (sub16 n b) (shl16 (pos r) (pos 8)) ≡ floor_div ((n -ℤ b) *ℤ pos r) 128
  moved =
      let d : sub16 n b ≡ n -ℤ b = saturated-same {w = w16} 32767 (fits-within near tt) tt in
      let t : shl16 (pos r) (pos 8) ≡ pos (r * 256) = saturated-same {w = w16} 32767 {z = pos (r * 256)} (record { sfits = omega arith }) tt in
      let q : floor_div ((n -ℤ b) *ℤ pos (r * 256)) (2 ^ 15) ≡ floor_div ((n -ℤ b) *ℤ pos r) 128 = ap (λ (z : ℤ). floor_div z (2 ^ 15)) (mul_pos (n -ℤ b) r 256) ∙ floor_256 ((n -ℤ b) *ℤ pos r) in
      (λ i. mult16 (d i) (t i)) ∙ ap (λ (z : ℤ). word16 z) q ∙ saturated-same {w = w16} 32767 (fits-within (step-within (n -ℤ b) r near h) tt) tt

  operators : add16 b (mult16 (sub16 n b) (shl16 (pos r) (pos 8))) ≡ b +ℤ floor_div ((n -ℤ b) *ℤ pos r) 128
  operators = ap (λ (z : ℤ). add16 b z) moved ∙ saturated-same {w = w16} 32767 (fits-within (within-add size (step-within (n -ℤ b) r near h)) tt) tt

-- as the code has them
pub cosine-operators :
    (f : ℤ) → SFits w16 f →
    add16 (entry cosines (up f / 128)) (mult16 (sub16 (entry cosines (up f / 128 + 1)) (entry cosines (up f / 128))) (shl16 (pos (up f % 128)) (pos 8))) ≡ cosine f
cosine-operators f h =
    let i = up f / 128 in
    operators (entry cosines i) (entry cosines (i + 1)) (up f % 128) (cosine_rule i (omega (arith, index f h))).size (next-within i (index f h)) (omega arith)
