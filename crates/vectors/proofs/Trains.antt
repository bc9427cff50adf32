-- The train undone: what is at a sample is what stands there and what was one period before, so that equal samples have equal bare pulses.
use mathlib.Core.Path.{◌≡◌, refl, sym, ap, ◌∙◌}
use mathlib.Core.Logic.{◌⊎◌, inl, inr}
use mathlib.Core.Bool.{Bool, true, false, cond}
use Prim.Native.Nat.{ℕ, zero, suc, ◌-◌, ◌%◌, ◌≤◌, ◌<◌, max}
use native.Mathlib.Nat.{zero-mod, mod-eq-sub-mod}
use native.Mathlib.Omega.{arith}
use lib.Dec.{leb, eqb}
use lib.IntN.{ℤ, pos, ◌+ℤ◌, +ℤ_idl, +ℤ_idr}
use borrow.Author.Tests.{eq-eqb, ne_eqb, le-leb, lt-leb, lt-ltb}
use Rattle.integers.specs.Base.{sum_to}
use Rattle.integers.specs.Linear.{line, line-add, add_cancel}
use Rattle.integers.specs.Natural.{le-or-lt}
use Rattle.tables.specs.Constants.{subframe_size}
use Rattle.positions.specs.Positions.{pulses, limit}
use Rattle.pulses.specs.Pulses.{pulse_place, pulse, repeats, period, reaches, term, sample}
use Rattle.vectors.specs.Vectors.{WithSlots, SameGiven, SameRest}
use Rattle.pulses.specs.declared.Description.{Description}
use Rattle.vectors.proofs.Distinct.{sum_at}
use Rattle.pulses.proofs.Repeats.{repeats_earlier, repeats-here, repeats-between}

-- ---- one pulse at p, repeated every m samples

repeats-at : (m p j : ℕ) → p ≡ j → repeats m p j ≡ true
repeats-at m p j e = let z : j - p ≡ 0 = omega arith in repeats-here m p j (omega arith) (rw z (zero-mod m))

repeats-within : (m p j : ℕ) → p < j → j - p < m → repeats m p j ≡ false
repeats-within m p j h k = let z : p - p ≡ 0 = omega arith in repeats-between m p p (omega arith) (rw z (zero-mod m)) j h (omega arith)

-- from m samples after p on, as m samples before
repeats-again : (m p j : ℕ) → m ≤ j → p ≤ j - m → repeats m p j ≡ repeats m p (j - m)
repeats-again m p j h k =
    let l : m ≤ j - p = omega arith in
    let e : (j - p) % m ≡ (j - m - p) % m = mod-eq-sub-mod l ∙ ap (λ (x : ℕ). x % m) (omega arith) in
    rw (le-leb p j (omega arith), le-leb p (j - m) k, e)

-- in all cases it is at j because it stands there, or because it was there m samples before
module _ (m : ℕ) (hm : 0 < m) (p j : ℕ) (a : ℤ) where
  one : cond (repeats m p j) a (pos 0) ≡ cond (eqb p j) a (pos 0) +ℤ cond (leb m j) (cond (repeats m p (j - m)) a (pos 0)) (pos 0)
  one = cases (le-or-lt m j) (le-or-lt j p) (le-or-lt p j) (le-or-lt p (j - m))
    where
      cases : (m ≤ j) ⊎ (j < m) → (j ≤ p) ⊎ (p < j) → (p ≤ j) ⊎ (j < p) → (p ≤ j - m) ⊎ (j - m < p)
          → cond (repeats m p j) a (pos 0) ≡ cond (eqb p j) a (pos 0) +ℤ cond (leb m j) (cond (repeats m p (j - m)) a (pos 0)) (pos 0)
      cases (inr x) (inr y) q w = rw (repeats-within m p j y (omega arith), ne_eqb p j (λ e. omega arith), lt-leb m j x)
      cases (inr x) (inl y) (inr z) w = rw (repeats_earlier m p j z, ne_eqb p j (λ e. omega arith), lt-leb m j x)
      cases (inr x) (inl y) (inl z) w = rw (repeats-at m p j (omega arith), eq-eqb p j (omega arith), lt-leb m j x) (sym (+ℤ_idr a))
      cases (inl x) (inr y) q (inr w) =
          rw (repeats-within m p j y (omega arith), ne_eqb p j (λ e. omega arith), le-leb m j x, repeats_earlier m p (j - m) w)
      cases (inl x) (inr y) q (inl w) = rw (repeats-again m p j x w, ne_eqb p j (λ e. omega arith), le-leb m j x) (sym (+ℤ_idl _))
      cases (inl x) (inl y) (inr z) w =
          rw (repeats_earlier m p j z, ne_eqb p j (λ e. omega arith), le-leb m j x, repeats_earlier m p (j - m) (omega arith))
      cases (inl x) (inl y) (inl z) w =
          rw (repeats-at m p j (omega arith), eq-eqb p j (omega arith), le-leb m j x, repeats_earlier m p (j - m) (omega arith)) (sym (+ℤ_idr a))

-- ---- the sum of all

regroup : (t : Bool) (w x y z : ℤ) → (w +ℤ cond t y (pos 0)) +ℤ (x +ℤ cond t z (pos 0)) ≡ (w +ℤ x) +ℤ cond t (y +ℤ z) (pos 0)
regroup true w x y z =
    omega (line, line-add w y, line-add x z, line-add (w +ℤ y) (x +ℤ z), line-add w x, line-add y z, line-add (w +ℤ x) (y +ℤ z))
regroup false w x y z = rw (+ℤ_idr w, +ℤ_idr x, +ℤ_idr (w +ℤ x))

nothing : (t : Bool) → pos 0 ≡ pos 0 +ℤ cond t (pos 0) (pos 0)
nothing true = refl
nothing false = refl

module _ (m : ℕ) (hm : 0 < m) (p : ℕ → ℕ) (a : ℕ → ℤ) where
  -- what the first n of them, repeated, sum to at j
  abbrev repeated : ℕ → ℕ → ℤ
  repeated n j = sum_to (λ k. cond (repeats m (p k) j) (a k) (pos 0)) n

  again : (n j : ℕ) → repeated n j ≡ sum_at p a n j +ℤ cond (leb m j) (repeated n (j - m)) (pos 0)
  unfolding sum_to
  again zero j = nothing (leb m j)
  again (suc n) j =
      (λ i. again n j i +ℤ one m hm (p n) j (a n) i)
      ∙ regroup (leb m j) (sum_at p a n j) (cond (eqb (p n) j) (a n) (pos 0)) (repeated n (j - m)) (cond (repeats m (p n) (j - m)) (a n) (pos 0))

-- ---- descriptions

-- the sum of the pulses that stand at j
abbrev pub bare : Description → ℕ → ℤ
bare d j = sum_at (pulse_place d) (pulse d) (pulses d.count) j

-- for a code with slots, by the flag
sample-sum : (d : Description) (j : ℕ) (t : Bool) → d.code < limit d.count → d.train ≡ t
    → sample d j ≡ sum_to (λ k. cond (cond t (repeats (period d) (pulse_place d k) j) (eqb (pulse_place d k) j)) (pulse d k) (pos 0)) (pulses d.count)
unfolding sample reaches
sample-sum d j t h e =
    ap (λ (b : Bool). cond b (sum_to (term d j) (pulses d.count)) (pos 0)) (lt-ltb d.code (limit d.count) h)
    ∙ ap (λ (f : Bool). sum_to (λ k. cond (cond f (repeats (period d) (pulse_place d k) j) (eqb (pulse_place d k) j)) (pulse d k) (pos 0)) (pulses d.count)) e

sample-train : (d : Description) (j : ℕ) → d.code < limit d.count → d.train ≡ true
    → sample d j ≡ bare d j +ℤ cond (leb (period d) j) (sample d (j - period d)) (pos 0)
sample-train d j h t =
    sample-sum d j true h t ∙ again (period d) (omega arith) (pulse_place d) (pulse d) (pulses d.count) j
    ∙ ap (λ (z : ℤ). bare d j +ℤ cond (leb (period d) j) z (pos 0)) (sym (sample-sum d (j - period d) true h t))

-- ---- two descriptions of equal count, flag and lag

-- with the flag clear the lag plays no part
sample_clear : (d : Description) (j : ℕ) → d.train ≡ false
    → sample d j ≡ sample (record { count = d.count; train = false; base_lag = 0; grid = d.grid; code = d.code; signs = d.signs; gain_index = d.gain_index }) j
unfolding sample reaches pulse_place pulse
sample_clear d j t =
    λ i. sample (record { count = d.count; train = t i; base_lag = d.base_lag; grid = d.grid; code = d.code; signs = d.signs; gain_index = d.gain_index }) j

module _ {d e : Description} (s : SameGiven d e) where
  -- equal samples have equal bare pulses: what was one period before is equal too, and cancels
  pub bare-same : WithSlots d → WithSlots e → ((j : ℕ) → j < subframe_size → sample d j ≡ sample e j)
      → (j : ℕ) → j < subframe_size → bare d j ≡ bare e j
  bare-same v w same j h = flagged d.train refl
    where
      flagged : (t : Bool) → d.train ≡ t → bare d j ≡ bare e j
      flagged false t = sym (sample-sum d j false v.below t) ∙ same j h ∙ sample-sum e j false w.below (sym s.train ∙ t)
      flagged true t =
          let m : period d ≡ period e = ap (λ (l : ℕ). max l 1) (s.base_lag t) in
          add_cancel (bare d j) (bare e j) (cond (leb (period d) j) (sample d (j - period d)) (pos 0))
          (sym (sample-train d j v.below t) ∙ same j h ∙ sample-train e j w.below (sym s.train ∙ t)
          ∙ rw (← m) (ap (λ (z : ℤ). bare e j +ℤ cond (leb (period d) j) z (pos 0)) (sym (same (j - period d) (omega arith)))))

  -- an equal rest gives equal samples
  pub sample-same : SameRest d e → (j : ℕ) → sample d j ≡ sample e j
  sample-same r j = flagged d.train refl
    where
      flagged : (t : Bool) → d.train ≡ t → sample d j ≡ sample e j
      flagged true t = λ i. sample (record { count = s.count i; train = s.train i; base_lag = s.base_lag t i; grid = r.grid i; code = r.code i; signs = r.signs i; gain_index = r.gain_index i }) j
      flagged false t =
          sample_clear d j t
          ∙ (λ i. sample (record { count = s.count i; train = false; base_lag = 0; grid = r.grid i; code = r.code i; signs = r.signs i; gain_index = r.gain_index i }) j)
          ∙ sym (sample_clear e j (sym s.train ∙ t))
