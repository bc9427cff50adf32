-- The digits of samples, four by four, are the characters of their line.
use Rattle.std.specs.Prelude.{◌≡◌, List, [], ◌∷◌, ◌++◌, ℕ, zero, suc, ◌+◌, ◌-◌, ◌*◌, ◌/◌, ◌%◌, ◌^◌, ◌<◌, ℤ}
use Rattle.std.specs.List.{flat_map}
use Rattle.std.proofs.Common.{refl, sym, ap, ◌∙◌, arith}
use Rattle.std.proofs.lemmas.List.Concat.{flat_map-append}
use mathlib.Core.List.{append_assoc}
use Rattle.integers.specs.Base.{entry, tabulate}
use Rattle.digits.specs.Digits.{image, glyph, sample_digits, digit_at, sample_line}

-- digit j of sample i
digit_is : (xs : List ℤ) (i j k : ℕ) → j < 4 → k ≡ 4 * i + j → glyph (image (entry xs i) / 16 ^ (3 - j) % 16) ≡ digit_at xs k
digit_is xs i j k h g =
    let q : i ≡ k / 4 = omega arith in
    let r : j ≡ k % 4 = omega arith in
    λ t. glyph (image (entry xs (q t)) / 16 ^ (3 - r t) % 16)

four : (g : ℕ → ℕ) (n : ℕ) → tabulate g (4 * suc n) ≡ tabulate g (4 * n) ++ g (4 * n) ∷ g (suc (4 * n)) ∷ g (suc (suc (4 * n))) ∷ g (suc (suc (suc (4 * n)))) ∷ []
unfolding tabulate
four g n =
    let e : 4 * suc n ≡ suc (suc (suc (suc (4 * n)))) = omega arith in
    ap (tabulate g) e ∙ simp append_assoc

sample_is : (xs : List ℤ) (n : ℕ) → sample_digits (entry xs n) ≡ digit_at xs (4 * n) ∷ digit_at xs (suc (4 * n)) ∷ digit_at xs (suc (suc (4 * n))) ∷ digit_at xs (suc (suc (suc (4 * n)))) ∷ []
unfolding sample_digits
sample_is xs n =
    let z : image (entry xs n) ≡ image (entry xs n) / 1 = omega arith in
    λ t. digit_is xs n 0 (4 * n) (omega arith) (omega arith) t ∷ digit_is xs n 1 (suc (4 * n)) (omega arith) (omega arith) t
    ∷ digit_is xs n 2 (suc (suc (4 * n))) (omega arith) (omega arith) t
    ∷ (ap (λ (m : ℕ). glyph (m % 16)) z ∙ digit_is xs n 3 (suc (suc (suc (4 * n)))) (omega arith) (omega arith)) t ∷ []

all_digits : (xs : List ℤ) (n : ℕ) → flat_map (λ ds. ds) (tabulate (λ i. sample_digits (entry xs i)) n) ≡ tabulate (digit_at xs) (4 * n)
unfolding tabulate sample_digits
all_digits xs zero = refl
all_digits xs (suc n) =
    flat_map-append (λ ds. ds) (tabulate (λ i. sample_digits (entry xs i)) n) (sample_digits (entry xs n) ∷ [])
    ∙ (λ t. all_digits xs n t ++ sample_is xs n t) ∙ sym (four (digit_at xs) n)

pub line_is : (xs : List ℤ) {ds : List ℕ} → ds ≡ flat_map (λ ds. ds) (tabulate (λ i. sample_digits (entry xs i)) 240) → ds ++ 10 ∷ [] ≡ sample_line xs
unfolding sample_line
line_is xs e = ap (λ (l : List ℕ). l ++ 10 ∷ []) (e ∙ all_digits xs 240)
