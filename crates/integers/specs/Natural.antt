-- Laws of natural numbers and of tests that more than one crate needs.
use Rattle.std.specs.Prelude.{◌≡◌, refl, Bool, true, false, not, cond, ◌⊎◌, ℕ, ◌≤◌, ◌<◌, T, ltb}
use Rattle.std.proofs.Common.{sym, inl, inr, arith, ltb-true, ltb-false, lt-ltb, le-ltb}

-- ---- orders

pub le-or-lt : (a b : ℕ) → (a ≤ b) ⊎ (b < a)
le-or-lt a b = decided (ltb b a) refl
  where
    decided : (t : Bool) → ltb b a ≡ t → (a ≤ b) ⊎ (b < a)
    decided true e = inr (ltb-true b a e)
    decided false e = inl (ltb-false b a e)

-- two tests that hold and fail together
pub ltb_same : (a b m n : ℕ) → (a < b → m < n) → (b ≤ a → n ≤ m) → ltb a b ≡ ltb m n
ltb_same a b m n f g = decided (ltb a b) refl
  where
    decided : (t : Bool) → ltb a b ≡ t → t ≡ ltb m n
    decided true e = sym (lt-ltb m n (f (ltb-true a b e)))
    decided false e = sym (le-ltb m n (g (ltb-false a b e)))

pub none-below-zero : {X : Type 0} (n : ℕ) → ltb n 0 ≡ true → X
none-below-zero n h = absurd (let k : n < 0 = ltb-true n 0 h in let z : ⊥ = omega arith in z)

-- ---- choices

-- what holds of both arms holds of the choice
pub cond_elim : {A : Type 0} (c : Bool) (x y : A) (P : A → Type 0) → (T c → P x) → (T (not c) → P y) → P (cond c x y)
cond_elim true x y P f g = f tt
cond_elim false x y P f g = g tt
