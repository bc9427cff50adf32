-- Laws of single characters.
use mathlib.Core.Path.{◌≡◌, refl, sym}
use mathlib.Core.Bool.{Bool, true, false, ◌||◌}
use mathlib.Core.Logic.{⊎_elim, ◌⊎◌, inl, inr}
use Prim.Native.Nat.{ℕ, ◌%◌, ◌≤◌}
use native.Mathlib.Omega.{arith}
use lib.Dec.{leb, ltb}
use borrow.Author.Tests.{leb-true, lt-ltb}
use Rattle.integers.specs.Truth.{both, neither}
use Rattle.digits.specs.Digits.{among, is_digit, digit_value, digit_code}

-- a test holds or fails
pub either : (t : Bool) → (t ≡ true) ⊎ (t ≡ false)
either true = inl refl
either false = inr refl

among_bounds : (lo hi b : ℕ) → among lo hi b ≡ true → (lo ≤ b) × (b ≤ hi)
among_bounds lo hi b h = let t = both (leb lo b) (leb b hi) h in (leb-true lo b t.0, leb-true b hi t.1)

-- ---- a digit by its code

value-small : (b : ℕ) → digit_value b ≤ 15
unfolding digit_value
value-small b =
    ⊎_elim (λ (h : among 48 57 b ≡ true). let t = among_bounds 48 57 b h in rw h (omega arith))
    (λ (h : among 48 57 b ≡ false).
    ⊎_elim (λ (k : among 65 70 b ≡ true). let t = among_bounds 65 70 b k in rw (h, k) (omega arith))
    (λ (k : among 65 70 b ≡ false).
    ⊎_elim (λ (l : among 97 102 b ≡ true). let t = among_bounds 97 102 b l in rw (h, k, l) (omega arith))
    (λ (l : among 97 102 b ≡ false). rw (h, k, l) (omega arith)) (either (among 97 102 b)))
    (either (among 65 70 b)))
    (either (among 48 57 b))

none-zero : (b : ℕ) → is_digit b ≡ false → digit_value b ≡ 0
unfolding is_digit digit_value
none-zero b h =
    let p = neither (among 48 57 b) (among 65 70 b || among 97 102 b) h in
    let q = neither (among 65 70 b) (among 97 102 b) p.1 in
    rw (p.0, q.0, q.1)

pub code_digit : (b : ℕ) → ltb (digit_code b) 16 ≡ is_digit b
code_digit b =
    ⊎_elim (λ (h : is_digit b ≡ true). rw h (lt-ltb (digit_value b) 16 (omega (arith, value-small b)))) (λ (h : is_digit b ≡ false). rw h) (either (is_digit b))

pub code-value : (b : ℕ) → digit_code b % 16 ≡ digit_value b
code-value b =
    ⊎_elim (λ (h : is_digit b ≡ true). rw h (omega (arith, value-small b))) (λ (h : is_digit b ≡ false). rw h (sym (none-zero b h))) (either (is_digit b))
