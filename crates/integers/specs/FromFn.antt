-- What `array::from_fn` and an array's `map` return, of what their calls return.
use Rattle.std.specs.Prelude.{◌≡◌, List, ℕ, zero, suc, ◌+◌, ◌<◌, ◌≤◌, length, get_or}
use Rattle.std.specs.Array.{IsFromFnResult, IsFromFnResultFrom, IsMapOf}
use Rattle.std.proofs.lemmas.List.{ext_get_or}
use Rattle.std.proofs.Common.{sym, ◌∙◌, subst, arith, inl, inr}
use denote.Param.Members.{Mut, Called}
use Rattle.integers.specs.Base.{tabulate}
use Rattle.integers.specs.Fill.{entries_all, tabulate_ext}
use Rattle.integers.specs.Natural.{le-or-lt}

module _ {F B : Type 0} (g : Mut F (ℕ × Unit {0}) B) (f : F) (h : ℕ → B) (N : ℕ) (calls : (i : ℕ) (y : B) (q : F) → i < N → Called g f (i, tt) y q → (y ≡ h i) × (q ≡ f)) where
  from_fn-at : (ys : List B) (d : B) (n i k : ℕ) → i + n ≡ N → IsFromFnResultFrom g f ys i n → i ≤ k → k < N → get_or ys k d ≡ h k
  from_fn-at ys d zero i k e r l u = absurd (omega arith)
  from_fn-at ys d (suc n) i k e r l u =
      let c = calls i r.1 r.0 (omega arith) r.3 in
      elim (le-or-lt k i) [
        | inl w ↦ let s : i ≡ k = omega arith in subst (λ (m : ℕ). get_or ys m d ≡ h m) s (r.2.1 d ∙ c.0)
        | inr w ↦ from_fn-at ys d n (i + 1) k (omega arith) (subst (λ (p : F). IsFromFnResultFrom g p ys (i + 1) n) c.1 r.4) (omega arith) u
      ]

  -- each call returns h of its index and leaves the closure as it is
  pub from_fn_is : {ys : List B} → (d : B) → IsFromFnResult g f ys N → ys ≡ tabulate h N
  from_fn_is {ys} d r =
      sym (entries_all d ys N r.long) ∙ tabulate_ext (λ i. get_or ys i d) h N (λ i lt. from_fn-at ys d N 0 i (omega arith) r.each (omega arith) lt)

module _ {F A : Type 0} (g : Mut F (A × Unit {0}) A) (same : (x y : A) (p q : F) → Called g p (x, tt) y q → y ≡ x) where
  -- calls of `map` that each return what they are given return the array
  pub map_same : {f : F} {xs ys : List A} {N : ℕ} → (d : A) → length xs ≡ N → IsMapOf g f xs ys N → ys ≡ xs
  map_same {xs = xs} {ys = ys} d e r =
      ext_get_or d ys xs (r.long ∙ sym e) (λ i lt. let c = r.at i d d (subst (λ n. i < n) r.long lt) in same (get_or xs i d) (get_or ys i d) c.0 c.1 c.2)
