-- Packing as the code does it: its three answers, the bits of the slots, and the sum of the weights.
use mathlib.Core.Path.{◌≡◌, refl, sym, ◌∙◌, ap, subst}
use mathlib.Core.Logic.{⊎_elim}
use mathlib.Core.Bool.{Bool, true, false, cond, not, ◌&&◌, ◌||◌}
use mathlib.Core.List.{List, [], ◌∷◌}
use Rattle.std.specs.Prelude.{Result, Ok, Err}
use Prim.Native.Nat.{ℕ, suc, ◌+◌, ◌-◌, ◌≤◌, ◌<◌, ◌*◌, ◌/◌, ◌%◌, ◌^◌}
use native.Mathlib.Nat.{zero-add, lt_of_lt_of_le}
use native.Mathlib.Omega.{arith}
use borrow.Author.Tests.{leb-true, ltb-true, eqb-true}
use lib.Bits.{bit_or}
use lib.Dec.{eqb, leb, ltb, lit≤}
use lib.ListN.{length, get_or, take, drop}
use lib.Pow.{pow_mono}
use lib.Seq.{take-length}
use Rattle.integers.specs.Natural.{le-or-lt}
use Rattle.integers.specs.Truth.{clash, both}
use Rattle.tables.specs.Rules.{choose}
use Rattle.positions.specs.Packing.{follows, ascending, rank, five_or_six, packed, number_of_packed, first_packing_number}
use Rattle.positions.specs.Positions.{pulses, limit, bits}
use Rattle.positions.specs.declared.Count.{Count}
use Rattle.positions.specs.declared.Count.TheVariants.{Five, Six}
use Rattle.positions.specs.declared.PackingRefusal.{PackingRefusal}
use Rattle.positions.specs.declared.PackingRefusal.TheVariants.{WrongCount, WrongSlot}
use Rattle.positions.proofs.Order.{Ascends, ascends-none, ascends_first, none_left}
use Rattle.positions.proofs.BitsFrom.{bits_from, bits-first, bits-later, First, first_odd, odd_first, even-later, bits-none, bits-some}
use Rattle.positions.proofs.Ranks.{rank-none, rank_here, rank_past}
use Rattle.positions.proofs.Steps.{before_slot, after_slot}
use Rattle.positions.proofs.Walks.{is-rank, limit_ways}
use Rattle.positions.proofs.Bits.{double, bit_set, pulses-few}

-- ---- the answers

-- five and six are the counts, and no other number is
pub pulses_counted : (n : Count) → five_or_six (pulses n) ≡ true
pulses_counted Five = refl
pulses_counted Six = refl

pub count_of : (k : ℕ) → five_or_six k ≡ true → (n : Count) × (k ≡ pulses n)
count_of k = either (eqb k 5) (eqb k 6) refl refl
  where
    either : (five six : Bool) → eqb k 5 ≡ five → eqb k 6 ≡ six → (five || six) ≡ true → (n : Count) × (k ≡ pulses n)
    either true six f s t = (Five, eqb-true k 5 f)
    either false true f s t = (Six, eqb-true k 6 s)
    either false false f s t = clash t refl

limit-most : (n : Count) → limit n ≤ 593775
limit-most Five = lit≤ tt
limit-most Six = lit≤ tt

module _ (ps : List ℕ) where
  -- by the two tests
  abbrev pub answer : Bool → Bool → Result ℕ PackingRefusal
  answer counted up = cond (not counted) (Err WrongCount) (cond (not up) (Err WrongSlot) (Ok (rank 30 ps)))

  pub packed-count : five_or_six (length ps) ≡ false → packed ps ≡ Err WrongCount
  unfolding packed
  packed-count k = λ t. answer (k t) (ascending 0 ps)

  module _ (k : five_or_six (length ps) ≡ true) where
    pub packed-slot : ascending 0 ps ≡ false → packed ps ≡ Err WrongSlot
    unfolding packed
    packed-slot a = λ t. answer (k t) (a t)

    pub packed-code : ascending 0 ps ≡ true → packed ps ≡ Ok (rank 30 ps)
    unfolding packed
    packed-code a = λ t. answer (k t) (a t)

    few_slots : length ps ≤ 6
    few_slots = let n = count_of (length ps) k in omega (arith, n.1, pulses-few n.0)

    rank-most : Ascends 0 ps → rank 30 ps ≤ 593775
    rank-most a =
        let n = count_of (length ps) k in
        omega (arith, (is-rank 30 ps (omega arith) a).below, ap (choose 30) n.1, limit_ways n.0, limit-most n.0)

  -- the number follows from the answer
  pub packed-number : number_of_packed (packed ps) ≡ first_packing_number ps
  unfolding packed first_packing_number
  packed-number = either (five_or_six (length ps)) (ascending 0 ps)
    where
      either : (counted up : Bool) → number_of_packed (answer counted up) ≡ cond (not counted) 12 (cond (not up) 13 0)
      either false up = refl
      either true false = refl
      either true true = refl

-- ---- the bits of slots: before each, those found and those of the slots left are together those of all

pub record Marking (ps : List ℕ) (found least : ℕ) (left : List ℕ) : Type 0 where
  pub found_bound : found < 2 ^ least
  pub all_found : found + bits left ≡ bits ps
  pub order : ascending least left ≡ ascending 0 ps

pub marking_start : (ps : List ℕ) → Marking ps 0 0 ps
marking_start ps = record { found_bound = omega arith; all_found = zero-add (bits ps); order = refl }

module _ {ps : List ℕ} {found least p : ℕ} {later : List ℕ} (s : Marking ps found least (p ∷ later)) where
  tested : (t : Bool) → follows least p ≡ t → ascending 0 ps ≡ (t && ascending (suc p) later)
  unfolding ascending
  tested t e = sym s.order ∙ ap (λ (b : Bool). b && ascending (suc p) later) e

  marked : follows least p ≡ true → Marking ps (bit_or found (1 * 2 ^ p % 2 ^ 32)) (p + 1) later
  unfolding bits
  marked e =
      let f = both (leb least p) (ltb p 30) e in
      let below : found < 2 ^ p = lt_of_lt_of_le s.found_bound (pow_mono (leb-true least p f.0)) in
      let set : bit_or found (1 * 2 ^ p % 2 ^ 32) ≡ found + 2 ^ p = bit_set p found (ltb-true p 30 f.1) below in
      record {
        found_bound = rw set (omega (arith, double p, below));
        all_found = rw set (omega (arith, s.all_found));
        order = let up : p + 1 ≡ suc p = omega arith in ap (λ (k : ℕ). ascending k later) up ∙ sym (tested true e);
      }

-- as code takes it, what is left after the first
rest_is : (later : List ℕ) → take (suc (length later) - 1) later ≡ later
rest_is later = let e : suc (length later) - 1 ≡ length later = omega arith in ap (λ (k : ℕ). take k later) e ∙ take-length later

-- the code's three ways: a slot is taken, one is wrong, and none is left
pub marking_next : {ps left : List ℕ} {found least : ℕ} → Marking ps found least left → 1 ≤ length left → follows least (get_or left 0 0) ≡ true
    → Marking ps (bit_or found (1 * 2 ^ get_or left 0 0 % 2 ^ 32)) (get_or left 0 0 + 1) (take (length left - 1) (drop 1 left))
marking_next {left = []} s n e = absurd (omega arith)
marking_next {ps} {left = p ∷ later} {found} s n e =
    subst (Marking ps (bit_or found (1 * 2 ^ p % 2 ^ 32)) (p + 1)) (sym (rest_is later)) (marked s e)

pub marking_wrong : {ps left : List ℕ} {found least : ℕ} → Marking ps found least left → 1 ≤ length left → follows least (get_or left 0 0) ≡ false
    → ascending 0 ps ≡ false
marking_wrong {left = []} s n e = absurd (omega arith)
marking_wrong {left = p ∷ later} s n e = tested s false e

pub marking_end : {ps left : List ℕ} {found least : ℕ} → Marking ps found least left → length left < 1 → (ascending 0 ps ≡ true) × (found ≡ bits ps)
unfolding bits
marking_end {left = []} {least = least} s n = (sym s.order ∙ ascends-none least, omega (arith, s.all_found))
marking_end {left = p ∷ later} s n = absurd (omega arith)

-- ---- the sum: before slot i, the weights so far and those to come are together the code; the slots left are those whose bits are

rank_first : (i : ℕ) (ps : List ℕ) → i < 30 → (f : First i ps) → rank (30 - i) ps ≡ rank (29 - i) f.tail
rank_first i ps h f = (λ t. rank (before_slot i h t) (f.is t)) ∙ rank_here (29 - i) i f.tail (omega arith)

rank_later : (i : ℕ) (ps : List ℕ) → i < 30 → 0 < length ps → Ascends (i + 1) ps → rank (30 - i) ps ≡ choose (29 - i) (length ps - 1) + rank (29 - i) ps
rank_later i [] h n a = absurd (omega arith)
rank_later i (p ∷ ps) h n a =
    let f = ascends_first (i + 1) p ps a in
    let k : length (p ∷ ps) - 1 ≡ length ps = omega arith in
    ap (λ (s : ℕ). rank s (p ∷ ps)) (before_slot i h) ∙ rank_past (29 - i) p ps (λ q. omega (arith, f.0))
    ∙ ap (λ (l : ℕ). choose (29 - i) l + rank (29 - i) (p ∷ ps)) (sym k)

pub record Packing (ps : List ℕ) (code wanted rest i : ℕ) : Type 0 where
  pub left : List ℕ
  pub many : length left ≡ wanted
  pub ascends : Ascends i left
  pub bits_are : rest ≡ bits_from i left
  pub few : wanted ≤ 6
  pub sums : code + rank (30 - i) left ≡ rank 30 ps

pub packing_start : (ps : List ℕ) → five_or_six (length ps) ≡ true → Ascends 0 ps → {found : ℕ} → found ≡ bits ps → Packing ps 0 (length ps) found 0
packing_start ps k a e = record {
  left = ps;
  many = refl;
  ascends = a;
  bits_are = e ∙ bits-first ps;
  few = few_slots ps k;
  sums = zero-add (rank 30 ps);
}

module _ {ps : List ℕ} {code wanted rest i : ℕ} (s : Packing ps code wanted rest i) where
  same_bit : rest % 2 ≡ bits_from i s.left % 2
  same_bit = ap (λ (n : ℕ). n % 2) s.bits_are

  -- a bit is left where a slot is
  pub packing_some : (rest ≡ 0 → ⊥) → 0 < wanted
  packing_some n = omega (arith, s.many, bits-some i s.left (λ z. n (s.bits_are ∙ z)))

  -- with none left, or past the last slot, there is nothing more to add
  ended : s.left ≡ [] → code ≡ rank 30 ps
  ended e = omega (arith, s.sums, ap (rank (30 - i)) e, rank-none (30 - i))

  pub packing_end : rest ≡ 0 → code ≡ rank 30 ps
  packing_end z = ended (bits-none i s.left (sym s.bits_are ∙ z))

  pub packing_past : 30 ≤ i → code ≡ rank 30 ps
  packing_past h = ended (none_left i s.left h s.ascends)

  module _ (h : i < 30) (w : 0 < wanted) {m : ℕ} (e : m ≡ choose (29 - i) (wanted - 1)) where
    -- slot i has a pulse
    hit : rest % 2 ≡ 1 → Packing ps code (wanted - 1) (rest / 2) (i + 1)
    hit q =
        let f = odd_first i s.left s.ascends (sym same_bit ∙ q) in
        record {
          left = f.tail;
          many = omega (arith, s.many, ap length f.is);
          ascends = f.ascends;
          bits_are = omega (arith, s.bits_are, first_odd i s.left f);
          few = omega (arith, s.few);
          sums = rw (after_slot i h) (omega (arith, s.sums, rank_first i s.left h f));
        }

    -- or none
    miss : rest % 2 ≡ 0 → Packing ps (code + m) wanted (rest / 2) (i + 1)
    miss q =
        let later = even-later i s.left s.ascends (λ o. omega (arith, same_bit)) in
        record {
          left = s.left;
          many = s.many;
          ascends = later;
          bits_are = omega (arith, s.bits_are, bits-later i s.left later);
          few = s.few;
          sums = rw (after_slot i h) (omega (arith, s.sums, rank_later i s.left h (omega (arith, s.many)) later, ap (λ (k : ℕ). choose (29 - i) (k - 1)) s.many, e));
        }

    -- the code's sum, for a lowest bit of 1 and of 0
    added : (bit : ℕ) → bit ≡ 1 → code + (1 - bit) * m ≡ code
    added bit q = rw q (omega arith)

    passed : (bit : ℕ) → bit ≡ 0 → code + (1 - bit) * m ≡ code + m
    passed bit q = rw q (omega arith)

    pub packing_next : Packing ps (code + (1 - rest % 2) * m) (wanted - rest % 2) (rest / 2) (i + 1)
    packing_next = ⊎_elim
        (λ (l : rest % 2 ≤ 0). let q : rest % 2 ≡ 0 = omega arith in let k : wanted - rest % 2 ≡ wanted = omega arith in rw (passed (rest % 2) q, k) (miss q))
        (λ (l : 0 < rest % 2). let q : rest % 2 ≡ 1 = omega arith in rw (added (rest % 2) q, q) (hit q))
        (le-or-lt (rest % 2) 0)

    pub packing-most : five_or_six (length ps) ≡ true → Ascends 0 ps → code + (1 - rest % 2) * m ≤ 593775
    packing-most k a = omega (arith, packing_next.sums, rank-most ps k a)
