-- Laws of `repeats`, and of the loop that adds a pulse at p and again whole steps after it.
use mathlib.Core.Path.{◌≡◌, refl, sym, ap, ◌∙◌, subst}
use mathlib.Core.Bool.{Bool, true, false, cond, ◌&&◌, and-false}
use mathlib.Core.List.{List}
use mathlib.Core.Logic.{⊎_elim}
use Prim.Native.Nat.{ℕ, ◌+◌, ◌-◌, ◌*◌, ◌%◌, ◌≤◌, ◌<◌}
use native.Mathlib.Nat.{eq-or-lt_of_le, zero-mod, mod-add-mod, mod-eq_of_lt, add-mod_right}
use native.Mathlib.Omega.{arith}
use borrow.Author.Tests.{lt-ltb, le-ltb, le-leb, lt-leb, eq-eqb, ne_eqb}
use lib.Dec.{ltb, eqb}
use lib.IntN.{ℤ, pos, ◌+ℤ◌, +ℤ_idr}
use lib.ListN.{length, set, length-set}
use lib.Seq.{get_or-set_same, get_or-set_other, ext_get_or}
use mir.Syntax.{w32}
use mir.Val.{SFits, to_z, of_z}
use mir.Facts.{to_z-of_z}
use Rattle.tables.specs.Constants.{unvoiced_gain_max}
use Rattle.integers.specs.Base.{entry, tabulate, Within, AllWithin}
use Rattle.integers.specs.Bound.{within-add, fits-within}
use Rattle.integers.specs.Natural.{le-or-lt}
use Rattle.integers.specs.Fill.{tabulate-at, tabulate-length}
use Rattle.pulses.specs.Pulses.{repeats, period, reaches}
use Rattle.pulses.specs.declared.Description.{Description}

-- ---- where a pulse repeats

pub repeats_earlier : (step p i : ℕ) → i < p → repeats step p i ≡ false
repeats_earlier step p i h = rw (lt-leb p i h)

-- at a whole number of steps after p, and nowhere from there to the next
module _ (step p j : ℕ) (from : p ≤ j) (whole : (j - p) % step ≡ 0) where
  pub repeats-here : repeats step p j ≡ true
  repeats-here = rw (le-leb p j from) (eq-eqb ((j - p) % step) 0 whole)

  pub repeats-between : (i : ℕ) → j < i → i < j + step → repeats step p i ≡ false
  repeats-between i h k =
      let e : i - p ≡ (j - p) + (i - j) = omega arith in
      let r : (i - p) % step ≡ 0 + (i - j) =
      ap (λ (n : ℕ). n % step) e ∙ sym (mod-add-mod (j - p) step (i - j)) ∙ (λ t. (whole t + (i - j)) % step) ∙ mod-eq_of_lt (omega arith) in
      rw (le-leb p i (omega arith)) (ne_eqb ((i - p) % step) 0 (λ q. omega arith))

  whole-next : (j + step - p) % step ≡ 0
  whole-next = let e : j + step - p ≡ (j - p) + step = omega arith in ap (λ (n : ℕ). n % step) e ∙ add-mod_right (j - p) step ∙ whole

-- ---- the code's step: that of the train, or one that leaves the subframe

once : (p j : ℕ) → p < 60 → j < 60 → repeats 60 p j ≡ eqb p j
once p j h k = ⊎_elim
    (λ (m : p ≤ j). rw (le-leb p j m) (⊎_elim
    (λ (q : p ≡ j). eq-eqb ((j - p) % 60) 0 (omega arith) ∙ sym (eq-eqb p j q))
    (λ (n : p < j). ne_eqb ((j - p) % 60) 0 (λ e. omega arith) ∙ sym (ne_eqb p j (λ q. omega arith)))
    (eq-or-lt_of_le m)))
    (λ (m : j < p). repeats_earlier 60 p j m ∙ sym (ne_eqb p j (λ q. omega arith)))
    (le-or-lt p j)

pub repeats-reaches : (d : Description) (p j : ℕ) → p < 60 → j < 60 → repeats (cond d.train (period d) 60) p j ≡ reaches d p j
unfolding reaches
repeats-reaches d p j h k = decided d.train
  where
    decided : (t : Bool) → repeats (cond t (period d) 60) p j ≡ cond t (repeats (period d) p j) (eqb p j)
    decided true = refl
    decided false = once p j h k

-- ---- the loop: v, and the pulse added at those of its places that are below j

-- entry i of that
abbrev pub added_to : List ℤ → ℤ → ℕ → ℕ → ℕ → ℕ → ℤ
added_to v amp p step j i = entry v i +ℤ cond (ltb i j && repeats step p i) amp (pos 0)

pub record Repeating (v : List ℤ) (amp : ℤ) (p step : ℕ) (out : List ℤ) (j : ℕ) : Type 0 where
  pub len : length out ≡ 60
  pub from : p ≤ j
  pub whole : (j - p) % step ≡ 0
  pub at : (i : ℕ) → i < 60 → entry out i ≡ added_to v amp p step j i

module _ (v : List ℤ) (amp : ℤ) (p step : ℕ) where
  below : (i j : ℕ) → i < j → added_to v amp p step j i ≡ entry v i +ℤ cond (repeats step p i) amp (pos 0)
  below i j h = rw (lt-ltb i j h)

  past : (i j : ℕ) → j ≤ i → added_to v amp p step j i ≡ entry v i
  past i j h = rw (le-ltb i j h) (+ℤ_idr (entry v i))

  off : (i j : ℕ) → repeats step p i ≡ false → added_to v amp p step j i ≡ entry v i
  off i j e = (λ t. entry v i +ℤ cond (ltb i j && e t) amp (pos 0)) ∙ rw (and-false (ltb i j)) (+ℤ_idr (entry v i))

module _ {v : List ℤ} {amp : ℤ} {p step : ℕ} where
  pub repeating_start : length v ≡ 60 → Repeating v amp p step v p
  repeating_start e = record {
    len = e;
    from = omega arith;
    whole = let z : p - p ≡ 0 = omega arith in rw z (zero-mod step);
    at = λ i h. sym (⊎_elim (λ (k : p ≤ i). past v amp p step i p k) (λ (k : i < p). off v amp p step i p (repeats_earlier step p i k)) (le-or-lt p i));
  }

  module _ {out : List ℤ} {j : ℕ} (r : Repeating v amp p step out j) where
    -- from j on it is still to be added
    pub repeating_later : (i : ℕ) → j ≤ i → i < 60 → entry out i ≡ entry v i
    repeating_later i k h = r.at i h ∙ past v amp p step i j k

    -- a turn adds it at j
    module _ (h : j < 60) (s : 0 < step) {x : ℤ} (e : x ≡ entry v j +ℤ amp) where
      at_earlier : (i : ℕ) → i < 60 → i < j → entry (set out j x) i ≡ added_to v amp p step (j + step) i
      at_earlier i k n =
          get_or-set_other out j i x (pos 0) (λ q. omega arith) ∙ r.at i k ∙ below v amp p step i j n ∙ sym (below v amp p step i (j + step) (omega arith))

      at_j : entry (set out j x) j ≡ added_to v amp p step (j + step) j
      at_j =
          let here = repeats-here step p j r.from r.whole in
          get_or-set_same out j x (pos 0) (omega (arith, r.len)) ∙ e
          ∙ sym (below v amp p step j (j + step) (omega arith) ∙ (λ t. entry v j +ℤ cond (here t) amp (pos 0)))

      at-later : (i : ℕ) → i < 60 → j < i → entry (set out j x) i ≡ added_to v amp p step (j + step) i
      at-later i k n =
          get_or-set_other out j i x (pos 0) (λ q. omega arith) ∙ repeating_later i (omega arith) k
          ∙ sym (⊎_elim (λ (m : j + step ≤ i). past v amp p step i (j + step) m)
          (λ (m : i < j + step). off v amp p step i (j + step) (repeats-between step p j r.from r.whole i n m)) (le-or-lt (j + step) i))

      pub repeating_next : Repeating v amp p step (set out j x) (j + step)
      repeating_next = record {
        len = length-set out j x ∙ r.len;
        from = omega (arith, r.from);
        whole = whole-next step p j r.from r.whole;
        at = λ i k. ⊎_elim (λ (m : j ≤ i). ⊎_elim (λ (q : j ≡ i). rw (sym q) at_j) (λ (n : j < i). at-later i k n) (eq-or-lt_of_le m))
            (λ (n : i < j). at_earlier i k n) (le-or-lt j i);
      }

    pub repeating_end : 60 ≤ j → out ≡ tabulate (λ i. entry v i +ℤ cond (repeats step p i) amp (pos 0)) 60
    repeating_end h =
        let f : ℕ → ℤ = λ i. entry v i +ℤ cond (repeats step p i) amp (pos 0) in
        ext_get_or (pos 0) out (tabulate f 60) (r.len ∙ sym (tabulate-length f 60))
        (λ i k. let l : i < 60 = omega (arith, r.len) in r.at i l ∙ below v amp p step i j (omega arith) ∙ sym (tabulate-at f 60 i (pos 0) l))

-- ---- the loop of the code, which reads and writes 32 bits: five pulses at most are there before

module _ {v : List ℤ} {amp : ℤ} {p step : ℕ} {out : List ℤ} {j : ℕ} (r : Repeating v (to_z w32 (of_z w32 amp)) p step out j) where
  kept : Within unvoiced_gain_max amp → to_z w32 (of_z w32 amp) ≡ amp
  kept w = to_z-of_z {w = w32} (fits-within w tt)

  module _ (all : AllWithin (5 * unvoiced_gain_max) v) (w : Within unvoiced_gain_max amp) (h : j < 60) where
    -- the sample is still v's
    still : to_z w32 (of_z w32 (entry out j)) ≡ entry v j
    still =
        let e = repeating_later r j (omega arith) h in
        ap (λ (z : ℤ). to_z w32 (of_z w32 z)) e ∙ to_z-of_z {w = w32} (fits-within (all.at j) tt)

    pub sum_fits : SFits w32 (to_z w32 (of_z w32 (entry out j)) +ℤ to_z w32 (of_z w32 amp))
    sum_fits = subst (SFits w32) (sym (λ i. still i +ℤ kept w i)) (fits-within (within-add (all.at j) w) tt)

    pub repeating_sum : 0 < step
        → Repeating v (to_z w32 (of_z w32 amp)) p step (set out j (to_z w32 (of_z w32 (to_z w32 (of_z w32 (entry out j)) +ℤ to_z w32 (of_z w32 amp))))) (j + step)
    repeating_sum s = repeating_next r h s (to_z-of_z {w = w32} sum_fits ∙ (λ i. still i +ℤ to_z w32 (of_z w32 amp)))

  pub repeating_sum_end : Within unvoiced_gain_max amp → 60 ≤ j → out ≡ tabulate (λ i. entry v i +ℤ cond (repeats step p i) amp (pos 0)) 60
  repeating_sum_end w h = repeating_end r h ∙ (λ t. tabulate (λ i. entry v i +ℤ cond (repeats step p i) (kept w t) (pos 0)) 60)
