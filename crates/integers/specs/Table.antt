-- A rule of a table, over any element type: one computed test, and from it the rule at each entry.
use Rattle.std.proofs.Common.{◌∙◌, add-zero, zero-add, add-suc, suc-add, le_of_suc-le-suc, not-suc-le-zero}
use Rattle.std.proofs.Math.Path.{sym, subst}
use Rattle.std.specs.Prelude.{Bool, true, false, ◌&&◌, length, get_or}
use mathlib.Core.List.{List, [], ◌∷◌}
use Prim.Native.Nat.{ℕ, zero, suc, ◌+◌, ◌<◌}
use Rattle.std.proofs.Math.Dec.{T}
use Rattle.integers.specs.Base.{every}

-- ---- two tests at once

pub and_left : (a b : Bool) → T (a && b) → T a
and_left true b t = tt
and_left false b t = t

pub and_right : (a b : Bool) → T (a && b) → T b
and_right true b t = t
and_right false b t = absurd t

-- ---- a test at each entry

module _ {ℓ} {A : Type ℓ} where
  every-from : (p : ℕ → A → Bool) (xs : List A) (i : ℕ) → T (every p i xs) → (k : ℕ) → k < length xs → (d : A) → T (p (i + k) (get_or xs k d))
  unfolding every
  every-from p [] i t k h d = absurd (not-suc-le-zero h)
  every-from p (x ∷ xs) i t zero h d = subst (λ (m : ℕ). T (p m x)) (sym (add-zero i)) (and_left (p i x) (every p (suc i) xs) t)
  every-from p (x ∷ xs) i t (suc k) h d =
      subst (λ (m : ℕ). T (p m (get_or xs k d))) (suc-add i k ∙ sym (add-suc i k))
      (every-from p xs (suc i) (and_right (p i x) (every p (suc i) xs) t) k (le_of_suc-le-suc h) d)

  -- the test at the entry k; d is what a read past the end would give
  pub every-at : (p : ℕ → A → Bool) (xs : List A) → T (every p 0 xs) → (k : ℕ) → k < length xs → (d : A) → T (p k (get_or xs k d))
  every-at p xs t k h d = subst (λ (m : ℕ). T (p m (get_or xs k d))) (zero-add k) (every-from p xs 0 t k h d)
