-- The pulses of a description, placed one after the other as the bits of their slots are read: what the vector holds after each slot, and its bounds.
use mathlib.Core.Path.{◌≡◌, refl, sym, ap, ◌∙◌, subst}
use mathlib.Core.Bool.{cond}
use mathlib.Core.List.{List}
use Prim.Native.Nat.{ℕ, ◌+◌, ◌-◌, ◌*◌, ◌/◌, ◌%◌, ◌^◌, ◌≤◌, ◌<◌}
use native.Mathlib.Nat.{div-div-eq-div-mul}
use native.Mathlib.Omega.{arith}
use borrow.Author.Tests.{lt-ltb, le-ltb}
use lib.IntN.{ℤ, pos, ◌+ℤ◌}
use lib.ListN.{length, get_or, drop, replicate, length-drop}
use lib.Seq.{get_or-drop, drop-drop}
use Rattle.tables.specs.Constants.{unvoiced_gain_max}
use Rattle.integers.specs.Base.{sum_to, entry, tabulate, Within, AllWithin}
use Rattle.integers.specs.Natural.{cond_elim}
use Rattle.integers.specs.Bound.{within-lit, all_within-tabulate}
use Rattle.integers.specs.Sum.{sum_step, within-sum-to}
use Rattle.integers.specs.Fill.{tabulate-at, tabulate_ext}
use Rattle.positions.specs.Positions.{pulses, limit, slots, bits}
use Rattle.positions.proofs.Order.{Ascends, none_left}
use Rattle.positions.proofs.Walks.{slots_length, slots-ascend}
use Rattle.positions.proofs.Bits.{double, pulses-few}
use Rattle.positions.proofs.BitsFrom.{bits_from, bits-first, bits-later, First, first_odd, odd_first, even-later}
use Rattle.pulses.specs.Pulses.{size, pulse_place, signed_by, pulse, repeats, period, reaches, term, sample, vector}
use Rattle.pulses.specs.declared.Description.{Description}
use Rattle.pulses.proofs.Places.{pulse-place-below}
use Rattle.pulses.proofs.Sizes.{abs-pulse, size-most}
use Rattle.pulses.proofs.Repeats.{repeats-reaches}

-- ---- the loop over the slots: v has the first `passed` pulses, and the bits left are those of the other slots

-- the bits that are left past one slot more
pub half : (n i : ℕ) → n / 2 ^ (i + 1) ≡ n / 2 ^ i / 2
half n i = let e : 2 ^ (i + 1) ≡ 2 ^ i * 2 = omega (arith, double i) in ap (λ (m : ℕ). n / m) e ∙ sym (div-div-eq-div-mul n (2 ^ i) 2)

-- what the first k pulses add to sample j
abbrev pub part : Description → ℕ → ℕ → ℤ
part d k j = sum_to (term d j) k

term-within : (d : Description) (j i : ℕ) → Within unvoiced_gain_max (term d j i)
term-within d j i =
    cond_elim (reaches d (pulse_place d i) j) (pulse d i) (pos 0) (Within unvoiced_gain_max) (λ t. record { within = rw (abs-pulse d i) (size-most d).within }) (λ t. within-lit tt)

-- the slots from the k-th on
abbrev pub others : Description → ℕ → List ℕ
others d k = drop k (slots d.count d.code)

pub record Placing (d : Description) (v : List ℤ) (rest left slot : ℕ) : Type 0 where
  pub passed : ℕ
  pub count : passed + left ≡ pulses d.count
  pub is : v ≡ tabulate (part d passed) 60
  pub bits_are : rest ≡ bits_from slot (others d passed)
  pub ascends : Ascends slot (others d passed)

others-length : (d : Description) (k : ℕ) → d.code < limit d.count → length (others d k) ≡ pulses d.count - k
others-length d k h = length-drop k (slots d.count d.code) ∙ ap (λ (n : ℕ). n - k) (slots_length d.count d.code h)

module _ {d : Description} (h : d.code < limit d.count) where
  pub placing_start : {found left : ℕ} → found ≡ bits (slots d.count d.code) → left ≡ pulses d.count → Placing d (replicate 60 (pos 0)) found left 0
  unfolding tabulate sum_to
  placing_start e l = record {
    passed = 0;
    count = omega arith;
    is = refl;
    bits_are = e ∙ bits-first (slots d.count d.code);
    ascends = slots-ascend d.count d.code h;
  }

  module _ {v : List ℤ} {rest left slot : ℕ} (r : Placing d v rest left slot) where
    abbrev k : ℕ
    k = r.passed

    low_bit : rest % 2 ≡ bits_from slot (others d k) % 2
    low_bit = ap (λ (n : ℕ). n % 2) r.bits_are

    -- a slot without a pulse
    pub placing_miss : (rest % 2 ≡ 1 → ⊥) → Placing d v (rest / 2) left (slot + 1)
    placing_miss e =
        let later = even-later slot (others d k) r.ascends (λ q. e (low_bit ∙ q)) in
        record { passed = k; count = r.count; is = r.is; bits_are = omega (arith, r.bits_are, bits-later slot (others d k) later); ascends = later }

    -- a slot with one: it is the k-th
    module _ (e : rest % 2 ≡ 1) where
      first : First slot (others d k)
      first = odd_first slot (others d k) r.ascends (sym low_bit ∙ e)

      more : k < pulses d.count
      more = omega (arith, others-length d k h, ap length first.is)

      pub placing_left : (1 ≤ left) × (left ≤ 6)
      placing_left = (omega (arith, more, r.count), omega (arith, r.count, pulses-few d.count))

      pub placing_within : AllWithin (5 * unvoiced_gain_max) v
      placing_within =
          rw r.is (all_within-tabulate 60 (λ j. within-sum-to (term d j) unvoiced_gain_max 5 (term-within d j) k (omega (arith, more, pulses-few d.count))))

      -- added at its place, by the step and with the size and sign that the code has
      module _ {step grid : ℕ} {amp : ℤ} (s : step ≡ cond d.train (period d) 60) (g : grid ≡ cond d.grid 1 0)
          (a : amp ≡ signed_by (pos (size d)) d.signs (left - 1))
        where
          slot_is : slot ≡ get_or (slots d.count d.code) k 0
          slot_is =
              let z : k + 0 ≡ k = omega arith in
              ap (λ (ps : List ℕ). get_or ps 0 0) (sym first.is) ∙ get_or-drop k (slots d.count d.code) 0 0
              ∙ ap (λ (n : ℕ). get_or (slots d.count d.code) n 0) z

          place_is : 2 * slot + grid ≡ pulse_place d k
          unfolding pulse_place
          place_is = λ t. 2 * slot_is t + g t

          pulse-is : amp ≡ pulse d k
          unfolding pulse
          pulse-is = let b : left - 1 ≡ pulses d.count - 1 - k = omega (arith, r.count) in a ∙ ap (signed_by (pos (size d)) d.signs) b

          added : (j : ℕ) → j < 60 → entry v j +ℤ cond (repeats step (2 * slot + grid) j) amp (pos 0) ≡ part d (k + 1) j
          added j m =
              let x = ap (λ (xs : List ℤ). entry xs j) r.is ∙ tabulate-at (part d k) 60 j (pos 0) m in
              let c = (λ t. repeats (s t) (place_is t) j) ∙ repeats-reaches d (pulse_place d k) j (pulse-place-below d h k more) m in
              (λ t. x t +ℤ cond (c t) (pulse-is t) (pos 0)) ∙ sym (sum_step (term d j) k)

          tail-is : first.tail ≡ others d (k + 1)
          tail-is = ap (drop 1) (sym first.is) ∙ drop-drop 1 k (slots d.count d.code)

          pub placing_hit : {w : List ℤ} → w ≡ tabulate (λ j. entry v j +ℤ cond (repeats step (2 * slot + grid) j) amp (pos 0)) 60
              → Placing d w (rest / 2) (left - 1) (slot + 1)
          placing_hit q =
              let b : rest / 2 ≡ bits_from (slot + 1) first.tail = omega (arith, r.bits_are, first_odd slot (others d k) first) in
              record {
                passed = k + 1;
                count = omega (arith, r.count, placing_left.0);
                is = q ∙ tabulate_ext _ _ 60 added;
                bits_are = b ∙ ap (bits_from (slot + 1)) tail-is;
                ascends = subst (Ascends (slot + 1)) tail-is first.ascends;
              }

    -- past the last slot
    pub placing_end : 30 ≤ slot → v ≡ vector d
    unfolding sample vector
    placing_end e =
        let all : k ≡ pulses d.count = omega (arith, r.count, others-length d k h, ap length (none_left slot (others d k) e r.ascends)) in
        let t = sym (lt-ltb d.code (limit d.count) h) in
        r.is ∙ ap (λ (n : ℕ). tabulate (part d n) 60) all ∙ (λ i. tabulate (λ j. cond (t i) (part d (pulses d.count) j) (pos 0)) 60)

-- ---- a code without slots

pub vector-none : (d : Description) → limit d.count ≤ d.code → replicate 60 (pos 0) ≡ vector d
unfolding tabulate sample vector
vector-none d h = let t = sym (le-ltb d.code (limit d.count) h) in λ i. tabulate (λ j. cond (t i) (part d (pulses d.count) j) (pos 0)) 60
