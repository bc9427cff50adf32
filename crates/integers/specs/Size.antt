-- The size of a signed number by its negative in a wider type, in which the least number has one too.
use Rattle.std.specs.Prelude.{◌≡◌, true, false, ◌+◌, ◌^◌, T, leb, ltb, ℤ, pos, nat_abs, neg_ℤ, ◌-ℤ◌}
use Rattle.std.proofs.Common.{sym, ap, ◌∙◌, subst, to_z-of_z}
use Rattle.std.specs.Int.Signed.{lt_z, non_neg}
use Rattle.std.specs.Int.{Width}
use mir.Val.{SFits, hbits, to_z, of_z}
use Rattle.std.proofs.Math.Facts.{sfits_widen}
use Rattle.integers.specs.Base.{Sized}
use Rattle.integers.specs.Bound.{abs_neg}
use Rattle.integers.specs.Linear.{line, line-neg, line-sub}
use Rattle.integers.specs.Signed.{nonneg, neg-nonneg, sub-fits, zero-fits}

zero-sub : (z : ℤ) → pos 0 -ℤ z ≡ neg_ℤ z
zero-sub z = omega (line, line-sub (pos 0) z, line-neg z)

-- n has width w and is read at w'; the two premises compute
module _ (w w' : Width) (wider : T (leb (hbits w) (hbits w'))) (room : T (ltb (2 ^ hbits w + 2 ^ hbits w) (2 ^ hbits w'))) {n : ℤ} (f : SFits w n) where
  widened : to_z w' (of_z w' (to_z w (of_z w n))) ≡ n
  widened = to_z-of_z (subst (SFits w') (sym (to_z-of_z f)) (sfits_widen wider f)) ∙ to_z-of_z f

  pub negative_fits : SFits w' (pos 0 -ℤ to_z w' (of_z w' (to_z w (of_z w n))))
  negative_fits = subst (λ (z : ℤ). SFits w' (pos 0 -ℤ z)) (sym widened) (sub-fits {w₁ = w} {w₂ = w} (pos 0) n (zero-fits w) f room)

  negative : to_z w' (of_z w' (pos 0 -ℤ to_z w' (of_z w' (to_z w (of_z w n))))) ≡ neg_ℤ n
  negative = to_z-of_z negative_fits ∙ ap (λ (z : ℤ). pos 0 -ℤ z) widened ∙ zero-sub n

  pub size-negative : lt_z (to_z w' (of_z w' (to_z w (of_z w n)))) (pos 0) ≡ true → Sized n (to_z w' (of_z w' (pos 0 -ℤ to_z w' (of_z w' (to_z w (of_z w n))))))
  size-negative h = record {
    sign = subst (λ (z : ℤ). T (non_neg z)) (sym negative) (neg-nonneg n (subst (λ (z : ℤ). lt_z z (pos 0) ≡ true) widened h));
    size = ap nat_abs negative ∙ abs_neg n;
  }

  pub size-nonneg : lt_z (to_z w' (of_z w' (to_z w (of_z w n)))) (pos 0) ≡ false → Sized n (to_z w' (of_z w' (to_z w (of_z w n))))
  size-nonneg h = record {
    sign = subst (λ (z : ℤ). T (non_neg z)) (sym widened) (nonneg n (subst (λ (z : ℤ). lt_z z (pos 0) ≡ false) widened h));
    size = ap nat_abs widened;
  }
