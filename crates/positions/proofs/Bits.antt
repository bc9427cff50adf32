-- The walk as the code takes it: what each slot does to the bits, and the two answers.
use mathlib.Core.Path.{◌≡◌, refl, sym, ap, ◌∙◌}
use mathlib.Core.Bool.{Bool, cond}
use mathlib.Core.List.{List}
use mathlib.Core.Logic.{⊎_elim}
use Rattle.std.specs.Prelude.{Some, None}
use Prim.Native.Nat.{ℕ, suc, ◌+◌, ◌-◌, ◌*◌, ◌%◌, ◌^◌, ◌≤◌, ◌<◌}
use native.Mathlib.Nat.{zero-add, pow-suc}
use native.Mathlib.Numerals.{add-one}
use native.Mathlib.Omega.{arith}
use borrow.Author.Tests.{lt-ltb, le-ltb}
use lib.Bits.{bit_or, or_shifted_r}
use lib.Dec.{lit<, lit≤}
use lib.ListN.{get_or}
use lib.Pow.{shl_exact}
use Rattle.integers.specs.Natural.{le-or-lt}
use Rattle.tables.specs.Tables.{weights}
use Rattle.tables.specs.Rules.{choose}
use Rattle.tables.proofs.Rules.{weight_rule}
use Rattle.positions.specs.Positions.{pulses, limit, walk, slots, bits, positions}
use Rattle.positions.specs.declared.Count.{Count}
use Rattle.positions.specs.declared.Count.TheVariants.{Five, Six}
use Rattle.positions.proofs.Steps.{before_slot, after_slot, walk_hit, walk_miss, walk_done}

-- ---- a slot

-- the weight where the code reads it
pub weight_is : (t : List ℕ) (i w : ℕ) → t ≡ weights → i < 30 → 0 < w → w ≤ 6 → get_or t ((6 - w) * 30 + i) 0 ≡ choose (29 - i) (w - 1)
weight_is t i w e h p q =
    let row : 5 - (6 - w) ≡ w - 1 = omega arith in
    ap (λ (s : List ℕ). get_or s ((6 - w) * 30 + i) 0) e ∙ weight_rule (6 - w) i (omega arith) h ∙ ap (choose (29 - i)) row

pub double : (i : ℕ) → 2 ^ (i + 1) ≡ 2 * 2 ^ i
double i = rw (add-one i, pow-suc) (omega arith)

-- a bit above all that are set
pub bit_set : (i b : ℕ) → i < 30 → b < 2 ^ i → bit_or b (1 * 2 ^ i % 2 ^ 32) ≡ b + 2 ^ i
bit_set i b h l = rw (shl_exact 1 i 32 (lit< tt) (omega arith), or_shifted_r 1 i b l) (omega arith)

pub bits_done : (s c : ℕ) → bits (walk s 0 c) ≡ 0
unfolding bits
bits_done s c = ap bits (walk_done s c)

-- slot i, where m is its weight
module _ (i w c m : ℕ) (h : i < 30) (p : 0 < w) (e : m ≡ choose (29 - i) (w - 1)) where
  here : walk (30 - i) w c ≡ walk (suc (29 - i)) (suc (w - 1)) c
  here = let b : w ≡ suc (w - 1) = omega arith in λ t. walk (before_slot i h t) (b t) c

  pub bits_hit : c < m → bits (walk (30 - i) w c) ≡ 2 ^ i + bits (walk (29 - i) (w - 1) c)
  unfolding bits
  bits_hit q =
      let k : 30 - suc (29 - i) ≡ i = omega arith in
      ap bits (here ∙ walk_hit (29 - i) (w - 1) c (omega arith)) ∙ (λ t. 2 ^ k t + bits (walk (29 - i) (w - 1) c))

  pub bits_miss : m ≤ c → bits (walk (30 - i) w c) ≡ bits (walk (29 - i) w (c - m))
  bits_miss q =
      let b : suc (w - 1) ≡ w = omega arith in
      ap bits (here ∙ walk_miss (29 - i) (w - 1) c (omega arith) ∙ (λ t. walk (29 - i) (b t) (c - sym e t)))

-- after the last slot
pub bits_end : (r c : ℕ) → bits (walk 0 r c) ≡ 0
unfolding walk bits
bits_end r c = refl

-- ---- the two answers

module _ (n : Count) (c : ℕ) where
  pub positions_of : c < limit n → positions n c ≡ Some (bits (slots n c))
  unfolding positions
  positions_of h = ap (λ (t : Bool). cond t (Some (bits (slots n c))) None) (lt-ltb c (limit n) h)

  pub positions-none : limit n ≤ c → positions n c ≡ None
  unfolding positions
  positions-none h = ap (λ (t : Bool). cond t (Some (bits (slots n c))) None) (le-ltb c (limit n) h)

  -- and back
  pub read_of : (b : ℕ) → positions n c ≡ Some b → (c < limit n) × (b ≡ bits (slots n c))
  read_of b e = ⊎_elim
      (λ (h : limit n ≤ c). let f : None ≡ Some b = sym (positions-none h) ∙ e in absurd (let z : ◌≡◌ {A = ℕ} 0 1 = cc in omega arith))
      (λ (h : c < limit n). let f : Some (bits (slots n c)) ≡ Some b = sym (positions_of h) ∙ e in (h, cc))
      (le-or-lt (limit n) c)

  pub read_none : positions n c ≡ None → limit n ≤ c
  read_none e = ⊎_elim
      (λ (h : limit n ≤ c). h)
      (λ (h : c < limit n). let f : Some (bits (slots n c)) ≡ None = sym (positions_of h) ∙ e in absurd (let z : ◌≡◌ {A = ℕ} 0 1 = cc in omega arith))
      (le-or-lt (limit n) c)

-- ---- five or six pulses

pub pulses-few : (n : Count) → pulses n ≤ 6
pulses-few Five = lit≤ tt
pulses-few Six = lit≤ tt

-- ---- the loop: before slot i, the slots found and those still to be found are together those of the code

pub record Walking (n : Count) (code found wanted rest i : ℕ) : Type 0 where
  pub wanted_bound : wanted ≤ 6
  pub found_bound : found < 2 ^ i
  pub all_found : found + bits (walk (30 - i) wanted rest) ≡ bits (slots n code)

module _ {n : Count} {code : ℕ} where
  pub walking_start : {wanted : ℕ} → wanted ≡ pulses n → Walking n code 0 wanted code 0
  walking_start e = record {
    wanted_bound = omega (arith, pulses-few n);
    found_bound = omega arith;
    all_found = zero-add _ ∙ ap (λ (w : ℕ). bits (walk 30 w code)) e;
  }

  module _ {found wanted rest i : ℕ} (s : Walking n code found wanted rest i) where
    module _ {m : ℕ} (h : i < 30) (p : 0 < wanted) (e : m ≡ choose (29 - i) (wanted - 1)) where
      pub walking_hit : rest < m → Walking n code (bit_or found (1 * 2 ^ i % 2 ^ 32)) (wanted - 1) rest (i + 1)
      walking_hit q =
          let set = bit_set i found h s.found_bound in
          record {
            wanted_bound = omega (arith, s.wanted_bound);
            found_bound = rw set (omega (arith, double i, s.found_bound));
            all_found = rw (after_slot i h, set) (omega (arith, bits_hit i wanted rest m h p e q, s.all_found));
          }

      pub walking_miss : m ≤ rest → Walking n code found wanted (rest - m) (i + 1)
      walking_miss q = record {
        wanted_bound = s.wanted_bound;
        found_bound = omega (arith, double i, s.found_bound);
        all_found = rw (after_slot i h) (omega (arith, bits_miss i wanted rest m h p e q, s.all_found));
      }

    -- with no slot left, or no pulse wanted
    module _ (l : code < limit n) where
      walked : bits (walk (30 - i) wanted rest) ≡ 0 → Some found ≡ positions n code
      walked z = let all : found ≡ bits (slots n code) = omega (arith, s.all_found) in ap Some all ∙ sym (positions_of n code l)

      pub walking_end : 30 ≤ i → Some found ≡ positions n code
      walking_end h = let z : 30 - i ≡ 0 = omega arith in walked (ap (λ (k : ℕ). bits (walk k wanted rest)) z ∙ bits_end wanted rest)

      pub walking_done : wanted ≡ 0 → Some found ≡ positions n code
      walking_done z = walked (ap (λ (w : ℕ). bits (walk (30 - i) w rest)) z ∙ bits_done (30 - i) rest)
