-- Laws of arrays that loops fill.
use mathlib.Core.Path.{◌≡◌, sym, ap, ◌∙◌}
use mathlib.Core.List.{List, ◌∷◌, ◌++◌}
use Prim.Native.Nat.{ℕ, zero, suc, ◌+◌, ◌-◌, ◌≤◌, ◌<◌}
use native.Mathlib.Numerals.{add-one}
use native.Mathlib.Omega.{arith}
use lib.ListN.{length, drop, get_or}
use lib.Seq.{drop-cons, append_snoc}
use Rattle.integers.specs.Base.{tabulate}
use Rattle.integers.specs.Fill.{tabulate-step, rest_end}

module _ {ℓ} {A : Type ℓ} (f : ℕ → A) (o : List A) (d : A) where
  -- the places from k on are f's
  abbrev pub From : ℕ → Type ℓ
  From k = (i : ℕ) → k ≤ i → i < length o → get_or o i d ≡ f i

  -- n of them are as if filled
  rest-same : (k n : ℕ) → k + n ≤ length o → From k → tabulate f k ++ drop k o ≡ tabulate f (k + n) ++ drop (k + n) o
  rest-same k zero h e = let z : k ≡ k + 0 = omega arith in ap (λ (m : ℕ). tabulate f m ++ drop m o) z
  rest-same k (suc n) h e =
      let p : k < length o = omega arith in
      let z : (k + 1) + n ≡ k + suc n = omega arith in
      (λ i. tabulate f k ++ drop-cons o k d p i)
      ∙ (λ i. tabulate f k ++ (e k (omega arith) p i ∷ drop (suc k) o))
      ∙ sym (append_snoc (tabulate f k) (f k) (drop (suc k) o))
      ∙ (λ i. sym (tabulate-step f k) i ++ drop (sym (add-one k) i) o)
      ∙ rest-same (k + 1) n (omega arith) (λ i q. e i (omega arith))
      ∙ ap (λ (m : ℕ). tabulate f m ++ drop m o) z

  -- and so are all N
  pub rest_all : (k N : ℕ) → length o ≡ N → k ≤ N → From k → tabulate f k ++ drop k o ≡ tabulate f N
  rest_all k N l h e =
      let z : k + (N - k) ≡ N = omega arith in
      rest-same k (N - k) (omega arith) e ∙ ap (λ (m : ℕ). tabulate f m ++ drop m o) z ∙ rest_end f o N (omega arith)
