-- What the taps read, as code finds it: before the subframe in the signal, in the subframe a lag before.
use mathlib.Core.Path.{◌≡◌, refl, sym, ap, ◌∙◌}
use mathlib.Core.Bool.{Bool, true, false, cond}
use mathlib.Core.List.{List}
use Prim.Native.Nat.{ℕ, ◌+◌, ◌-◌, ◌%◌, ◌≤◌, ◌<◌}
use native.Mathlib.Nat.{zero-add, mod-eq_of_lt, mod-eq-sub-mod}
use native.Mathlib.Omega.{arith}
use borrow.Author.Tests.{ltb-true, ltb-false, le-ltb}
use lib.Dec.{ltb}
use lib.IntN.{ℤ, pos, ◌+ℤ◌, ◌*ℤ◌}
use Rattle.integers.specs.Base.{entry, floor_div, sum_to, tabulate}
use Rattle.integers.specs.Fill.{tabulate-at}
use Rattle.integers.specs.Sum.{sum_ext}
use Rattle.tables.specs.Constants.{acb_taps}
use Rattle.correlation.specs.Correlation.{correlation}
use Rattle.correlation.proofs.Terms.{correlation-is}
use Rattle.adaptive.specs.Adaptive.{delayed, adaptive_sample}

module _ (x : List ℤ) (p l : ℕ) where
  -- the first two samples are older, the next l are the last before p
  pub delayed-first : (m : ℕ) → l + 2 ≤ p → m < l + 2 → entry x (p - (l + 2) + m) ≡ delayed x p l m
  delayed-first m room h = ap (entry x) (place (ltb m 2) refl)
    where
      place : (t : Bool) → ltb m 2 ≡ t → p - (l + 2) + m ≡ p - cond t (l + 2 - m) (l - (m - 2) % l)
      place true e = omega (arith, ltb-true m 2 e)
      place false e = omega (arith, ltb-false m 2 e, mod-eq_of_lt {n = m - 2} {m = l} (omega (arith, ltb-false m 2 e)))

  -- those after them come again
  pub delayed-again : (m : ℕ) → l + 2 ≤ m → delayed x p l (m - l) ≡ delayed x p l m
  delayed-again m h =
      let order : m - l - 2 ≡ m - 2 - l = omega arith in
      let turned : (m - l - 2) % l ≡ (m - 2) % l = ap (λ (k : ℕ). k % l) order ∙ sym (mod-eq-sub-mod {n = m - 2} {m = l} (omega arith)) in
      rw (le-ltb (m - l) 2 (omega arith), le-ltb m 2 (omega arith), turned)

  -- the sum of a sample's products, where what the taps read is kept for all sixty samples and four more
  pub delayed-sum : (taps : List ℤ) (n : ℕ) → n < 60 →
      correlation taps 0 (tabulate (delayed x p l) 64) n acb_taps ≡ sum_to (λ j. entry taps j *ℤ delayed x p l (n + j)) acb_taps
  delayed-sum taps n h =
      correlation-is taps 0 (tabulate (delayed x p l) 64) n acb_taps
      ∙ sum_ext _ _ acb_taps (λ j k i. entry taps (zero-add j i) *ℤ tabulate-at (delayed x p l) 64 (n + j) (pos 0) (omega arith) i)

  -- and the sample, as code has it
  pub adaptive_sample_is : (taps : List ℤ) (n : ℕ) → n < 60 → {e : List ℤ} → e ≡ tabulate (delayed x p l) 64 →
      {y : ℤ} → y ≡ floor_div (correlation taps 0 e n acb_taps +ℤ pos 8192) 16384 → y ≡ adaptive_sample x p l taps n
  adaptive_sample_is taps n h read rounded =
      rounded ∙ (λ i. floor_div (correlation taps 0 (read i) n acb_taps +ℤ pos 8192) 16384) ∙ ap (λ (z : ℤ). floor_div (z +ℤ pos 8192) 16384) (delayed-sum taps n h)
