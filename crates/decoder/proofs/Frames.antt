-- What is made of each subframe of a frame.
use mathlib.Core.Path.{◌≡◌, ap, ◌∙◌}
use mathlib.Core.Bool.{Bool, cond}
use mathlib.Core.List.{List}
use lib.IntN.{ℤ}
use Rattle.excitation.specs.Excitation.{in_turn}
use Rattle.excitation.specs.declared.Subframe.{Subframe}
use Rattle.excitation.specs.declared.Subframe.TheVariants.{Zero, One, Two, Three}
use Rattle.excitation.specs.declared.Rate.{Rate}
use Rattle.decoder.specs.Frame.{pitch_inputs, plain_inputs}

-- in turn, each of what was made of the one before
pub in_turn_lem : (f : List ℤ → Subframe → List ℤ) {x₀ x₁ x₂ x₃ x₄ x : List ℤ} → x₀ ≡ x → x₁ ≡ f x₀ Zero → x₂ ≡ f x₁ One →
    x₃ ≡ f x₂ Two → x₄ ≡ f x₃ Three → x₄ ≡ in_turn f x
in_turn_lem f e e₁ e₂ e₃ e₄ =
    e₄ ∙ ap (λ x. f x Three) (e₃ ∙ ap (λ x. f x Two) (e₂ ∙ ap (λ x. f x One) (e₁ ∙ ap (λ x. f x Zero) e)))

-- of each by itself, with lags and a signal that are the same
pub inputs-same : (on : Bool) (rate : Rate) (f g : Subframe → ℤ) {x y : List ℤ} → ((k : Subframe) → f k ≡ g k) → x ≡ y →
    cond on (pitch_inputs rate f x) (plain_inputs x) ≡ cond on (pitch_inputs rate g y) (plain_inputs y)
inputs-same on rate f g h e = λ i. cond on (pitch_inputs rate (λ k. h k i) (e i)) (plain_inputs (e i))
