-- Where each call of `array::from_fn` returns a number within a bound, each element is within it.
use Rattle.std.specs.Prelude.{List, ℕ, zero, suc, ◌+◌, ◌<◌, ◌≤◌, ◌≡◌, ℤ, pos}
use Rattle.std.specs.Array.{IsFromFnResult, IsFromFnResultFrom}
use Rattle.std.proofs.Common.{sym, subst, arith, inl, inr}
use Rattle.std.proofs.lemmas.List.{get_or_past}
use denote.Param.Members.{Mut, Called}
use Rattle.integers.specs.Base.{entry, Within, AllWithin}
use Rattle.integers.specs.Natural.{le-or-lt}

module _ {F : Type 0} (g : Mut F (ℕ × Unit {0}) ℤ) (f : F) (B N : ℕ) (calls : (i : ℕ) (y : ℤ) (q : F) → i < N → Called g f (i, tt) y q → Within B y × (q ≡ f)) where
  within-from : (ys : List ℤ) (n i k : ℕ) → i + n ≡ N → IsFromFnResultFrom g f ys i n → i ≤ k → k < N → Within B (entry ys k)
  within-from ys zero i k e r l u = absurd (omega arith)
  within-from ys (suc n) i k e r l u =
      let c = calls i r.1 r.0 (omega arith) r.3 in
      elim (le-or-lt k i) [
        | inl w ↦ let s : i ≡ k = omega arith in subst (λ (m : ℕ). Within B (entry ys m)) s (subst (Within B) (sym (r.2.1 (pos 0))) c.0)
        | inr w ↦ within-from ys n (i + 1) k (omega arith) (subst (λ (p : F). IsFromFnResultFrom g p ys (i + 1) n) c.1 r.4) (omega arith) u
      ]

  pub from_fn_within : {ys : List ℤ} → IsFromFnResult g f ys N → AllWithin B ys
  from_fn_within {ys} r = record {
    at = λ k. elim (le-or-lt N k) [
      | inl w ↦ subst (Within B) (sym (get_or_past ys k (pos 0) (omega (arith, r.long)))) (record { within = omega arith })
      | inr w ↦ within-from ys N 0 k (omega arith) r.each (omega arith) w
    ];
  }
