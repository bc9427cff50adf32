-- Laws of an array that a loop fills and reads.
use mathlib.Core.Path.{◌≡◌, sym, ap, ◌∙◌}
use mathlib.Core.List.{List}
use Prim.Native.Nat.{ℕ, ◌<◌}
use lib.ListN.{get_or}
use lib.Seq.{get_or-take}
use Rattle.integers.specs.Base.{Fills}
use Rattle.integers.specs.Fill.{tabulate-at}

-- what was stored at j, before i
pub fills_at {ℓ} : {A : Type ℓ} {f : ℕ → A} {N : ℕ} {l : List A} {i : ℕ} → Fills f N l i → (j : ℕ) (d : A) → j < i → get_or l j d ≡ f j
fills_at {f = f} {l = l} {i = i} a j d h = sym (get_or-take i l j d h) ∙ ap (λ (k : List _). get_or k j d) a.front ∙ tabulate-at f i j d h
