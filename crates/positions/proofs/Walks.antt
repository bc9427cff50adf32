-- Codes and slots: reading, packing, and that each undoes the other.
use mathlib.Core.Path.{◌≡◌, refl, sym, ◌∙◌, ap}
use mathlib.Core.Logic.{◌⊎◌, inl, inr}
use mathlib.Core.List.{List, [], ◌∷◌}
use Prim.Native.Nat.{ℕ, zero, suc, ◌+◌, ◌-◌, ◌≤◌, ◌<◌}
use native.Mathlib.Omega.{arith}
use lib.ListN.{length}
use Rattle.integers.specs.Natural.{le-or-lt}
use Rattle.tables.specs.Rules.{choose}
use Rattle.positions.specs.Positions.{pulses, limit, walk, slots}
use Rattle.positions.specs.Packing.{rank}
use Rattle.positions.specs.declared.Count.{Count}
use Rattle.positions.specs.declared.Count.TheVariants.{Five, Six}
use Rattle.positions.proofs.Steps.{walk_done, walk_hit, walk_miss}
use Rattle.positions.proofs.Ranks.{rank-none, rank_here, rank_past}
use Rattle.positions.proofs.Order.{Ascends, ascends-none, ascends_first, ascends_cons, ascends-from}

-- ---- slots after reading: as many as wanted, ascending, and of the code that was read

record IsWalk (s r c : ℕ) (ps : List ℕ) : Type 0 where
  many : length ps ≡ r
  ascend : Ascends (30 - s) ps
  code : rank s ps ≡ c

choose-none : (s : ℕ) → choose s 0 ≡ 1
unfolding choose
choose-none zero = refl
choose-none (suc s) = refl

is-walk_done : (s : ℕ) → IsWalk s 0 0 []
is-walk_done s = record { many = refl; ascend = ascends-none (30 - s); code = rank-none s }

is-walk_hit : (s r c : ℕ) (ps : List ℕ) → s < 30 → IsWalk s r c ps → IsWalk (suc s) (suc r) c ((30 - suc s) ∷ ps)
is-walk_hit s r c ps h w = record {
  many = ap suc w.many;
  ascend = ascends_cons (30 - suc s) (30 - suc s) ps (omega arith) (omega arith) (ascends-from (30 - s) (suc (30 - suc s)) ps (omega arith) w.ascend);
  code = rank_here s (30 - suc s) ps refl ∙ w.code;
}

is-walk_miss : (s r c : ℕ) (ps : List ℕ) → s < 30 → choose s r ≤ c → IsWalk s (suc r) (c - choose s r) ps → IsWalk (suc s) (suc r) c ps
is-walk_miss s r c [] h k w = absurd (omega (arith, w.many))
is-walk_miss s r c (p ∷ ps) h k w =
    let later : 30 - s ≤ p = (ascends_first (30 - s) p ps w.ascend).0 in
    let e : length ps ≡ r = omega (arith, w.many) in
    record {
      many = w.many;
      ascend = ascends-from (30 - s) (30 - suc s) (p ∷ ps) (omega arith) w.ascend;
      code = rank_past s p ps (λ q. omega arith) ∙ rw e (omega (arith, w.code));
    }

is-walk : (s r c : ℕ) → s ≤ 30 → c < choose s r → IsWalk s r c (walk s r c)
unfolding choose
is-walk s zero c h k = let e : c ≡ 0 = omega (arith, choose-none s) in rw (walk_done s c, e) (is-walk_done s)
is-walk zero (suc r) c h k = absurd (omega arith)
is-walk (suc s) (suc r) c h k = decided (is-walk s r c (omega arith)) (is-walk s (suc r) (c - choose s r) (omega arith)) (le-or-lt (choose s r) c)
  where
    decided : (c < choose s r → IsWalk s r c (walk s r c)) → (c - choose s r < choose s (suc r) → IsWalk s (suc r) (c - choose s r) (walk s (suc r) (c - choose s r)))
        → (choose s r ≤ c) ⊎ (c < choose s r) → IsWalk (suc s) (suc r) c (walk (suc s) (suc r) c)
    decided p q (inr a) = rw (walk_hit s r c a) (is-walk_hit s r c (walk s r c) h (p a))
    decided p q (inl a) = rw (walk_miss s r c a) (is-walk_miss s r c (walk s (suc r) (c - choose s r)) h a (q (omega arith)))

-- ---- reading after packing: ascending slots are those of their rank, which is below the number of ways

pub record IsRank (s : ℕ) (ps : List ℕ) : Type 0 where
  pub below : rank s ps < choose s (length ps)
  pub read : walk s (length ps) (rank s ps) ≡ ps

is-rank-none : (s : ℕ) → IsRank s []
is-rank-none s = record { below = rw (rank-none s, choose-none s) (omega arith); read = walk_done s (rank s []) }

module _ (s p : ℕ) (ps : List ℕ) where
  is-rank_here : p ≡ 30 - suc s → IsRank s ps → IsRank (suc s) (p ∷ ps)
  unfolding choose
  is-rank_here e r =
      let same = rank_here s p ps e in
      record {
        below = omega (arith, same, r.below);
        read =
            ap (walk (suc s) (suc (length ps))) same ∙ walk_hit s (length ps) (rank s ps) r.below
            ∙ (λ i. sym e i ∷ r.read i);
      }

  is-rank_past : (p ≡ 30 - suc s → ⊥) → IsRank s (p ∷ ps) → IsRank (suc s) (p ∷ ps)
  unfolding choose
  is-rank_past n r =
      let m = choose s (length ps) in
      let same = rank_past s p ps n in
      record {
        below = omega (arith, same, r.below);
        read =
            ap (walk (suc s) (suc (length ps))) same ∙ walk_miss s (length ps) (m + rank s (p ∷ ps)) (omega arith)
            ∙ ap (walk s (suc (length ps))) {x = m + rank s (p ∷ ps) - m} {y = rank s (p ∷ ps)} (omega arith) ∙ r.read;
      }

pub is-rank : (s : ℕ) (ps : List ℕ) → s ≤ 30 → Ascends (30 - s) ps → IsRank s ps
is-rank s [] h a = is-rank-none s
is-rank zero (p ∷ ps) h a = let f = ascends_first 30 p ps a in absurd (omega (arith, f.0, f.1))
is-rank (suc s) (p ∷ ps) h a =
    let f = ascends_first (30 - suc s) p ps a in
    decided f.0 f.1 f.2 (is-rank s ps (omega arith)) (is-rank s (p ∷ ps) (omega arith)) (le-or-lt p (30 - suc s))
  where
    decided : 30 - suc s ≤ p → p < 30 → Ascends (suc p) ps → (Ascends (30 - s) ps → IsRank s ps) → (Ascends (30 - s) (p ∷ ps) → IsRank s (p ∷ ps))
        → (p ≤ 30 - suc s) ⊎ (30 - suc s < p) → IsRank (suc s) (p ∷ ps)
    decided l m b x y (inl q) = is-rank_here s p ps (omega arith) (x (ascends-from (suc p) (30 - s) ps (omega arith) b))
    decided l m b x y (inr q) = is-rank_past s p ps (λ e. omega arith) (y (ascends_cons (30 - s) p ps (omega arith) m b))

-- ---- the slots of a code below its limit

-- the limits are the numbers of ways to choose the slots
pub limit_ways : (n : Count) → limit n ≡ choose 30 (pulses n)
unfolding choose
limit_ways Five = refl
limit_ways Six = refl

module _ (n : Count) (c : ℕ) (h : c < limit n) where
  slots_are_walk : IsWalk 30 (pulses n) c (slots n c)
  slots_are_walk = is-walk 30 (pulses n) c (omega arith) (omega (arith, limit_ways n))

  pub slots_length : length (slots n c) ≡ pulses n
  slots_length = slots_are_walk.many

  pub slots-ascend : Ascends 0 (slots n c)
  slots-ascend = slots_are_walk.ascend

  pub slots-rank : rank 30 (slots n c) ≡ c
  slots-rank = slots_are_walk.code

-- so that they determine it
pub slots-code : (n : Count) (c e : ℕ) → c < limit n → e < limit n → slots n c ≡ slots n e → c ≡ e
slots-code n c e hc he p = sym (slots-rank n c hc) ∙ ap (rank 30) p ∙ slots-rank n e he
