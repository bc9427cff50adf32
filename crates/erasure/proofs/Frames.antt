-- The subframes in turn, counted.
use Rattle.std.proofs.Common.{◌≡◌, ℕ, zero, suc, ◌+◌, ◌-◌, ◌*◌, ◌<◌, List, [], ◌∷◌, ℤ, get_or, refl, ap, add-one, arith}
use Rattle.excitation.specs.Excitation.{subframe_place, in_turn}
use Rattle.excitation.specs.declared.Subframe.{Subframe}
use Rattle.excitation.specs.declared.Subframe.TheVariants.{Zero, One, Two, Three}

-- subframe n
abbrev pub number : ℕ → Subframe
number n = get_or (Zero ∷ One ∷ Two ∷ Three ∷ []) n Zero

-- f of the first n, of which in_turn has four
unfoldable pub turns : (List ℤ → Subframe → List ℤ) → List ℤ → ℕ → List ℤ
turns f x zero = x
turns f x (suc n) = f (turns f x n) (number n)

pub turns_next : (f : List ℤ → Subframe → List ℤ) (x : List ℤ) (n : ℕ) → turns f x (n + 1) ≡ f (turns f x n) (number n)
unfolding turns
turns_next f x n = rw add-one

pub four_turns : (f : List ℤ → Subframe → List ℤ) (x : List ℤ) (n : ℕ) → n ≡ 4 → turns f x n ≡ in_turn f x
unfolding turns
four_turns f x n e = ap (turns f x) e

pub place_of : (n : ℕ) → n < 4 → subframe_place (number n) - 146 ≡ 60 * n
place_of zero h = refl
place_of (suc zero) h = refl
place_of (suc (suc zero)) h = refl
place_of (suc (suc (suc zero))) h = refl
place_of (suc (suc (suc (suc n)))) h = absurd (let z : ⊥ = omega arith in z)
