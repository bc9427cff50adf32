-- The fewest digits that `io::decimal` promises are those of the definition.
use mathlib.Core.Path.{◌≡◌, sym, ap, subst, ◌∙◌}
use mathlib.Core.Bool.{Bool, cond}
use mathlib.Core.List.{List, [], ◌∷◌, ◌++◌, append_assoc}
use mathlib.Core.Logic.{⊎_elim}
use Prim.Native.Nat.{ℕ, zero, suc, ◌+◌, ◌-◌, ◌/◌, ◌%◌, ◌^◌, ◌≤◌, ◌<◌}
use native.Mathlib.Nat.{pow-suc, one-le-pow, pow-le-pow_right}
use native.Mathlib.Omega.{arith}
use borrow.Author.Tests.{lt-ltb, le-ltb}
use lib.Dec.{ltb}
use Rattle.io.specs.Digits.{hex_digit_ascii, last_digits, IsDigitCount}
use Rattle.integers.specs.Natural.{le-or-lt}
use Rattle.counts.specs.Counts.{decimal_in, decimal, count_line}

glyph-below : (d : ℕ) → d < 10 → hex_digit_ascii d ≡ 48 + d
glyph-below d h = ap (λ (t : Bool). cond t (48 + d) (87 + d)) (lt-ltb d 10 h)

-- more than one digit: n is 10 or more
two_digits : (n j : ℕ) → IsDigitCount 10 1 n (suc (suc j)) → 10 ^ suc j ≤ n
two_digits n j f = let e : suc (suc j) - 1 ≡ suc j = omega arith in subst (λ (k : ℕ). 10 ^ k ≤ n) e (f.2 (omega arith))

least-ten : (n j : ℕ) → 10 ^ suc j ≤ n → 10 ≤ n
least-ten n j h = omega (arith, pow-suc 10 j, one-le-pow j 10 (omega arith))

-- and the digits but the last are the fewest of n / 10
but_last : (n j : ℕ) → IsDigitCount 10 1 n (suc (suc j)) → IsDigitCount 10 1 (n / 10) (suc j)
but_last n j f =
    let e : suc j - 1 ≡ j = omega arith in
    let some = two_digits n j f in (
      omega arith,
      omega (arith, pow-suc 10 (suc j), f.1),
      λ _. subst (λ (k : ℕ). 10 ^ k ≤ n / 10) (sym e) (omega (arith, pow-suc 10 j, some)),
    )

fewest_digits : (m k n : ℕ) → k ≤ m → IsDigitCount 10 1 n k → last_digits 10 k n ≡ decimal_in m n
unfolding decimal_in
fewest_digits m zero n h f = absurd (let z : ⊥ = omega (arith, f.0) in z)
fewest_digits zero (suc k) n h f = absurd (let z : ⊥ = omega arith in z)
fewest_digits (suc m) (suc zero) n h f =
    let small : n < 10 = omega (arith, f.1) in
    λ i. cond (sym (lt-ltb n 10 small) i) [] (decimal_in m (n / 10)) ++ (glyph-below (n % 10) (omega arith) i ∷ [])
fewest_digits (suc m) (suc (suc j)) n h f =
    let large = le-ltb n 10 (least-ten n j (two_digits n j f)) in
    let front = fewest_digits m (suc j) (n / 10) (omega arith) (but_last n j f) in
    λ i. cond (sym large i) [] (front i) ++ (glyph-below (n % 10) (omega arith) i ∷ [])

grown : (j k : ℕ) → j ≤ k → 10 ^ j ≤ 10 ^ k
grown j k h = pow-le-pow_right (omega arith) h

-- twenty digits hold a count
pub few : (k n : ℕ) → n < 2 ^ 64 → IsDigitCount 10 1 n k → k ≤ 20
few k n h f = ⊎_elim (λ (p : k ≤ 20). p) (λ (p : 20 < k). absurd (over p)) (le-or-lt k 20)
  where
    over : 20 < k → ⊥
    over p =
        let some : 10 ^ (k - 1) ≤ n = f.2 (omega arith) in
        let more : 10 ^ 20 ≤ 10 ^ (k - 1) = grown 20 (k - 1) (omega arith) in
        omega arith

decimal-digits : (k n : ℕ) → n < 2 ^ 64 → IsDigitCount 10 1 n k → last_digits 10 k n ≡ decimal n
decimal-digits k n h f = fewest_digits 20 k n (few k n h f) f

-- the line in the parts that are put together
pub line_parts : (l ds : List ℕ) (n count k : ℕ) → 0 < count → count < 2 ^ 64 → IsDigitCount 10 1 count k → ds ≡ last_digits 10 k count
    → ((l ++ (78 ∷ (48 + n / 10) ∷ (48 + n % 10) ∷ 32 ∷ [])) ++ ds) ++ (10 ∷ []) ≡ l ++ cond (ltb 0 count) (count_line n count) []
unfolding count_line
line_parts l ds n count k some h f e =
    let start : List ℕ = 78 ∷ (48 + n / 10) ∷ (48 + n % 10) ∷ 32 ∷ [] in
    append_assoc (l ++ start) ds (10 ∷ [])
    ∙ append_assoc l start (ds ++ (10 ∷ []))
    ∙ ap (λ (d : List ℕ). l ++ (start ++ (d ++ (10 ∷ [])))) (e ∙ decimal-digits k count h f)
    ∙ ap (λ (t : Bool). l ++ cond t (count_line n count) []) (sym (lt-ltb 0 count some))
