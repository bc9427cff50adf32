-- Every set of slots has one code (specs/Codes.antt).
use mathlib.Core.Path.{◌≡◌, refl, sym, ◌∙◌, ap}
use mathlib.Core.Bool.{Bool, true, false}
use mathlib.Core.List.{List}
use Rattle.std.specs.Prelude.{Some, Ok}
use Prim.Native.Nat.{ℕ, ◌<◌}
use native.Mathlib.Omega.{arith}
use lib.ListN.{length}
use Rattle.tables.specs.Rules.{choose}
use Rattle.positions.specs.Positions.{limit, walk, slots, bits, positions}
use Rattle.positions.specs.Packing.{ascending, rank, five_or_six, packed, number_of_packed}
use Rattle.positions.specs.Codes.{SlotsOf, ReadAs, OneCode, OnlySlots, PackedAfterReading, ReadAfterPacking}
use Rattle.positions.specs.declared.Count.{Count}
use Rattle.positions.proofs.Walks.{is-rank, limit_ways, slots_length, slots-ascend, slots-rank}
use Rattle.positions.proofs.Bits.{positions_of}
use Rattle.positions.proofs.Packing.{pulses_counted, count_of, answer, packed-code}

-- ---- a set of slots

module _ (n : Count) (ps : List ℕ) (s : SlotsOf n ps) where
  rank-packed : packed ps ≡ Ok (rank 30 ps)
  rank-packed = packed-code ps (ap five_or_six s.many ∙ pulses_counted n) s.ascend

  rank-read : ReadAs n (rank 30 ps) ps
  rank-read =
      let r = is-rank 30 ps (omega arith) s.ascend in
      record {
        below = omega (arith, limit_ways n, r.below, ap (choose 30) s.many);
        read = ap (λ (k : ℕ). walk 30 k (rank 30 ps)) (sym s.many) ∙ r.read;
      }

-- ---- the theorems

pub one_code : OneCode
one_code n ps s = record {
  code = rank 30 ps;
  packed_as = rank-packed n ps s;
  read_as = rank-read n ps s;
  only = λ c r. sym (slots-rank n c r.below) ∙ ap (rank 30) r.read;
}

slots_of_code : (n : Count) (c : ℕ) → c < limit n → SlotsOf n (slots n c)
slots_of_code n c h = record { many = slots_length n c h; ascend = slots-ascend n c h }

pub packed_after_reading : PackedAfterReading
packed_after_reading n c h =
    let s = slots_of_code n c h in (s, rank-packed n (slots n c) s ∙ ap Ok (slots-rank n c h))

pub read_after_packing : ReadAfterPacking
read_after_packing n ps c s e =
    let r = rank-read n ps s in
    let f : Ok (rank 30 ps) ≡ Ok c = sym (rank-packed n ps s) ∙ e in
    let same : rank 30 ps ≡ c = cc in
    ap (positions n) (sym same) ∙ positions_of n (rank 30 ps) r.below ∙ ap (λ (xs : List ℕ). Some (bits xs)) r.read

module _ (ps : List ℕ) where
  set_of : (counted up : Bool) (c : ℕ) → five_or_six (length ps) ≡ counted → ascending 0 ps ≡ up → answer ps counted up ≡ Ok c → (n : Count) × SlotsOf n ps
  set_of false up c k a e = absurd (omega (arith, ap number_of_packed e))
  set_of true false c k a e = absurd (omega (arith, ap number_of_packed e))
  set_of true true c k a e = let n = count_of (length ps) k in (n.0, record { many = n.1; ascend = a })

pub only_slots : OnlySlots
unfolding packed
only_slots ps c e = set_of ps (five_or_six (length ps)) (ascending 0 ps) c refl refl e
