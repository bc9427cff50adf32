-- Laws of a place that goes round: n % l, counted on with n.
use mathlib.Core.Path.{◌≡◌, sym, ap, ◌∙◌}
use Prim.Native.Nat.{ℕ, ◌+◌, ◌%◌, ◌≤◌, ◌<◌}
use native.Mathlib.Nat.{suc-mod, mod-lt, mod-eq_of_lt, mod_self}
use native.Mathlib.Numerals.{add-one}
use native.Mathlib.Omega.{arith}

module _ (n l : ℕ) where
  step : (n + 1) % l ≡ (n % l + 1) % l
  step = rw (add-one n, add-one (n % l)) (suc-mod n l)

  -- it goes on before the end
  pub turn_on : n % l + 1 < l → n % l + 1 ≡ (n + 1) % l
  turn_on h = sym (step ∙ mod-eq_of_lt h)

  -- and starts again at the end
  pub turn-over : 0 < l → l ≤ n % l + 1 → 0 ≡ (n + 1) % l
  turn-over p h =
      let e : n % l + 1 ≡ l = omega (arith, mod-lt n p) in
      sym (step ∙ ap (λ (k : ℕ). k % l) e ∙ mod_self l)
