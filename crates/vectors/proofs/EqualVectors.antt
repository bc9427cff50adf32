-- The theorem on equal vectors (demand 3): equal samples have equal bare pulses (Trains), so equal places and pulses (Distinct), and these give the rest.
use mathlib.Core.Path.{◌≡◌, refl, sym, ap, ◌∙◌, subst}
use mathlib.Core.Bool.{Bool, true, false, cond}
use mathlib.Core.List.{List}
use Prim.Native.Nat.{ℕ, zero, suc, ◌+◌, ◌-◌, ◌*◌, ◌/◌, ◌%◌, ◌^◌, ◌<◌}
use native.Mathlib.Nat.{mod-eq_of_lt}
use native.Mathlib.Omega.{arith}
use lib.Dec.{eqb}
use lib.IntN.{ℤ, pos, neg_ℤ, nat_abs, pos-ne-negsuc}
use lib.ListN.{get_or}
use lib.Pow.{mod-pow-add}
use lib.Seq.{ext_get_or}
use Rattle.integers.specs.Base.{entry}
use Rattle.integers.specs.Fill.{tabulate-at}
use Rattle.tables.specs.Constants.{subframe_size}
use Rattle.tables.proofs.Rules.{gain_rule, gain_distinct}
use Rattle.positions.specs.Positions.{pulses, limit, slots}
use Rattle.positions.specs.declared.Count.{Count}
use Rattle.positions.specs.declared.Count.TheVariants.{Five, Six}
use Rattle.positions.proofs.Walks.{slots_length, slots-code}
use Rattle.positions.proofs.Codes.{one_code}
use Rattle.pulses.specs.Pulses.{size, pulse_place, signed_by, pulse, sample, vector}
use Rattle.vectors.specs.Vectors.{WithSlots, SameGiven, SameRest, SameSigns, EqualVectors, SlotsReached, Vectors, AtMostOne}
use Rattle.pulses.specs.declared.Description.{Description}
use Rattle.pulses.proofs.Places.{pulse-place-below, pulse-place_order}
use Rattle.pulses.proofs.Sizes.{abs-pulse}
use Rattle.vectors.proofs.Distinct.{sum_at, Row, rows_equal}
use Rattle.vectors.proofs.Trains.{bare-same, sample-same}

-- ---- a place gives its slot and the grid

same_place : (x y : ℕ) (g h : Bool) → 2 * x + cond g 1 0 ≡ 2 * y + cond h 1 0 → (x ≡ y) × (g ≡ h)
same_place x y true true e = (omega arith, refl)
same_place x y true false e = absurd (omega arith)
same_place x y false true e = absurd (omega arith)
same_place x y false false e = (omega arith, refl)

-- ---- with the size given, a pulse tells its sign bit

-- the sign tells the test
same_sign : (g : ℕ) (t u : Bool) → 0 < g → cond t (neg_ℤ (pos g)) (pos g) ≡ cond u (neg_ℤ (pos g)) (pos g) → t ≡ u
same_sign zero t u h e = absurd (omega arith)
same_sign (suc g) true true h e = refl
same_sign (suc g) true false h e = absurd (pos-ne-negsuc (suc g) g (sym e))
same_sign (suc g) false true h e = absurd (pos-ne-negsuc (suc g) g e)
same_sign (suc g) false false h e = refl

-- and the test the bit
tested : (x : ℕ) → x < 2 → cond (eqb x 1) 1 0 ≡ x
tested zero h = refl
tested (suc zero) h = refl
tested (suc (suc x)) h = absurd (omega arith)

same_bit : (g s t b : ℕ) → 0 < g → signed_by (pos g) s b ≡ signed_by (pos g) t b → s / 2 ^ b % 2 ≡ t / 2 ^ b % 2
same_bit g s t b h e =
    let x = s / 2 ^ b % 2 in
    let y = t / 2 ^ b % 2 in
    sym (tested x (omega arith)) ∙ ap (λ (v : Bool). cond v 1 0) (same_sign g (eqb x 1) (eqb y 1) h e) ∙ tested y (omega arith)

-- the n low bits, one by one, are the remainder by 2 ^ n
top_bit : (s n : ℕ) → s % 2 ^ suc n ≡ (s / 2 ^ n % 2) * 2 ^ n + s % 2 ^ n
top_bit s n = ap (λ (k : ℕ). s % 2 ^ k) (omega arith) ∙ mod-pow-add s 1 n

low_bits : (s t n : ℕ) → ((b : ℕ) → b < n → s / 2 ^ b % 2 ≡ t / 2 ^ b % 2) → s % 2 ^ n ≡ t % 2 ^ n
low_bits s t zero h = omega arith
low_bits s t (suc n) h =
    top_bit s n ∙ (λ i. h n (omega arith) i * 2 ^ n + low_bits s t n (λ b m. h b (omega arith)) i) ∙ sym (top_bit t n)

pub same-signs : SameSigns
same-signs d e v w c = (
  λ same.
      sym (mod-eq_of_lt v.signs) ∙ low_bits d.signs e.signs (pulses d.count) same
      ∙ mod-eq_of_lt (subst (λ (n : Count). e.signs < 2 ^ pulses n) (sym c) w.signs),
  λ equal b h. ap (λ (s : ℕ). s / 2 ^ b % 2) equal,
)

-- ---- one description: its pulses are a row

some_pulses : (n : Count) → 0 < pulses n
some_pulses Five = omega arith
some_pulses Six = omega arith

-- the pulse that has the sign bit b
pulse_of : (d : Description) (n b : ℕ) → pulses d.count ≡ n → b < n → pulse d (n - 1 - b) ≡ signed_by (pos (size d)) d.signs b
unfolding pulse
pulse_of d n b e h = ap (signed_by (pos (size d)) d.signs) (omega arith)

module _ (d : Description) (w : WithSlots d) where
  gain-below : d.gain_index < 24
  gain-below = omega (arith, w.accepted.gain_index)

  size-positive : 0 < size d
  size-positive = omega (arith, (gain_rule d.gain_index gain-below).positive)

  row : Row (pulse_place d) (pulse d) subframe_size (pulses d.count)
  row = record { ascends = pulse-place_order d w.below; inside = pulse-place-below d w.below; nonzero = λ k h. rw (abs-pulse d k) size-positive }

-- ---- two descriptions of equal count, flag and lag, with equal samples

module _ {d e : Description} (v : WithSlots d) (w : WithSlots e) (s : SameGiven d e) (same : (j : ℕ) → j < subframe_size → sample d j ≡ sample e j) where
  below_too : e.code < limit d.count
  below_too = subst (λ (n : Count). e.code < limit n) (sym s.count) w.below

  each : (k : ℕ) → k < pulses d.count → (pulse_place d k ≡ pulse_place e k) × (pulse d k ≡ pulse e k)
  each =
      rows_equal (pulses d.count) (row d v) (subst (λ (n : Count). Row (pulse_place e) (pulse e) subframe_size (pulses n)) (sym s.count) (row e w))
      (λ j h. bare-same s v w same j h ∙ ap (λ (n : Count). sum_at (pulse_place e) (pulse e) (pulses n) j) (sym s.count))

  slot_grid : (k : ℕ) → k < pulses d.count → (get_or (slots d.count d.code) k 0 ≡ get_or (slots e.count e.code) k 0) × (d.grid ≡ e.grid)
  unfolding pulse_place
  slot_grid k h = same_place (get_or (slots d.count d.code) k 0) (get_or (slots e.count e.code) k 0) d.grid e.grid (each k h).0

  same-slots : slots d.count d.code ≡ slots d.count e.code
  same-slots =
      let len = slots_length d.count d.code v.below in
      ext_get_or 0 (slots d.count d.code) (slots d.count e.code) (len ∙ sym (slots_length d.count e.code below_too))
      (λ k h. (slot_grid k (omega (arith, len))).0 ∙ ap (λ (n : Count). get_or (slots n e.code) k 0) (sym s.count))

  same_size : size d ≡ size e
  same_size = sym (abs-pulse d 0) ∙ ap nat_abs (each 0 (some_pulses d.count)).1 ∙ abs-pulse e 0

  same_bits : (b : ℕ) → b < pulses d.count → d.signs / 2 ^ b % 2 ≡ e.signs / 2 ^ b % 2
  same_bits b h =
      let n = pulses d.count in
      same_bit (size d) d.signs e.signs b (size-positive d v)
      (sym (pulse_of d n b refl h) ∙ (each (n - 1 - b) (omega arith)).1 ∙ pulse_of e n b (ap pulses (sym s.count)) h
      ∙ ap (λ (g : ℕ). signed_by (pos g) e.signs b) (sym same_size))

  same_rest : SameRest d e
  same_rest = record {
    grid = (slot_grid 0 (some_pulses d.count)).1;
    code = slots-code d.count d.code e.code v.below below_too same-slots;
    signs = (same-signs d e v.accepted w.accepted s.count).0 same_bits;
    gain_index = gain_distinct d.gain_index e.gain_index (gain-below d v) (gain-below e w) (omega (arith, same_size));
  }

-- ---- the theorem

entry-sample : (d : Description) (j : ℕ) → j < subframe_size → entry (vector d) j ≡ sample d j
unfolding vector
entry-sample d j h = tabulate-at (sample d) subframe_size j (pos 0) h

pub equal_vectors : EqualVectors
equal_vectors d e v w s = (
  λ same. same_rest v w s (λ j h. sym (entry-sample d j h) ∙ same j h ∙ entry-sample e j h),
  λ c j h. entry-sample d j h ∙ sample-same s c j ∙ sym (entry-sample e j h),
)

-- ---- each set of slots is reached: by its code

slots_reached : SlotsReached
slots_reached d a ps s =
    let o = one_code d.count ps s in
    (o.code, record { accepted = record { gain_index = a.gain_index; signs = a.signs; base_lag = a.base_lag }; below = o.read_as.below }, o.read_as.read)

pub vectors : Vectors
vectors = record { equal = equal_vectors; reached = slots_reached }

pub at_most_one : AtMostOne
at_most_one d e v w count train lag same =
    let r = (equal_vectors d e v w (record { count = count; train = train; base_lag = λ t. lag })).0 (λ j h. ap (λ (xs : List ℤ). entry xs j) same) in
    λ i. record { count = count i; train = train i; base_lag = lag i; grid = r.grid i; code = r.code i; signs = r.signs i; gain_index = r.gain_index i }
