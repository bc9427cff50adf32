-- Laws of lags: where their samples stand, and when they count.
use mathlib.Core.Path.{◌≡◌, ap, ◌∙◌}
use mathlib.Core.Bool.{Bool, true, false, ◌&&◌, and-false}
use mathlib.Core.List.{List}
use Prim.Native.Nat.{ℕ, ◌+◌, ◌≤◌, ◌<◌}
use native.Mathlib.Omega.{arith}
use borrow.Author.Tests.{leb-true, le-leb, lt-leb}
use lib.Dec.{leb}
use lib.IntN.{ℤ, pos}
use lib.Signed.{lt_z}
use Rattle.integers.specs.Linear.{line, line-abs}
use Rattle.lags.specs.Lags.{window, lag_correlation, lag_energy, counts, d}
use Rattle.lags.specs.Search.{next}
use Rattle.lags.specs.declared.Direction.{Direction}
use Rattle.lags.specs.declared.Direction.TheVariants.{Forward, Backward}
use Rattle.integers.specs.Truth.{both}

-- ---- where its samples stand

pub window-most : (to : Direction) (p m : ℕ) → window to p m ≤ p + m
window-most Forward p m = omega arith
window-most Backward p m = omega arith

pub window-above : (to : Direction) (p m : ℕ) → m < p → 0 < window to p m
window-above Forward p m h = omega arith
window-above Backward p m h = omega arith

pub window-next : (to : Direction) (p m : ℕ) → next to (window to p m) ≡ window to p (m + 1)
window-next Forward p m = omega arith
window-next Backward p m = omega arith

-- ---- when it counts

module _ (x : List ℤ) (to : Direction) (p m : ℕ) where
  abbrev inside : Bool
  inside = leb (window to p m + 60) 386

  abbrev alike : Bool
  alike = lt_z (pos 0) (lag_correlation x to p m)

  abbrev loud : Bool
  loud = lt_z (pos 0) (lag_energy x to p m)

  pub counts-not-inside : 386 < window to p m + 60 → counts x to p m ≡ false
  unfolding counts
  counts-not-inside h = ap (λ (t : Bool). t && (alike && loud)) (lt-leb (window to p m + 60) 386 h)

  pub counts-not-alike : alike ≡ false → counts x to p m ≡ false
  unfolding counts
  counts-not-alike h = ap (λ (t : Bool). inside && (t && loud)) h ∙ and-false inside

  pub counts-not-loud : loud ≡ false → counts x to p m ≡ false
  unfolding counts
  counts-not-loud h = ap (λ (t : Bool). inside && (alike && t)) h ∙ ap (λ (t : Bool). inside && t) (and-false alike) ∙ and-false inside

  pub counts_all : window to p m + 60 ≤ 386 → alike ≡ true → loud ≡ true → counts x to p m ≡ true
  unfolding counts
  counts_all h k l = λ i. le-leb (window to p m + 60) 386 h i && (k i && l i)

  -- and what is known of it then
  pub counted-inside : counts x to p m ≡ true → window to p m + 60 ≤ 386
  unfolding counts
  counted-inside h = leb-true (window to p m + 60) 386 (both inside (alike && loud) h).0

  pub counted-loud : counts x to p m ≡ true → 0 < d x to p m
  unfolding counts
  counted-loud h =
      let l : loud ≡ true = (both alike loud (both inside (alike && loud) h).1).1 in
      omega (line, line-abs (lag_energy x to p m))
