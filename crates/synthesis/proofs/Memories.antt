-- A memory of ten samples of 16 bits is the front of all past samples, the most recent first.
use mathlib.Core.Path.{◌≡◌, sym, ap, ◌∙◌, subst}
use mathlib.Core.List.{List, ◌∷◌}
use Prim.Native.Nat.{◌^◌, ◌≤◌, ◌<◌}
use native.Mathlib.Omega.{arith}
use lib.ListN.{take, length}
use lib.Seq.{get_or-take, take-take, take_all}
use lib.IntN.{ℤ, pos, ◌*ℤ◌}
use lib.Signed.{mag}
use mir.Syntax.{w16}
use mir.Val.{SFits, to_z, of_z}
use Rattle.integers.specs.Base.{entry, AllFit}
use Rattle.integers.specs.Expression.{is-mag, need_cast}
use Rattle.integers.specs.Sum.{sum_ext}
use Rattle.synthesis.specs.Synthesis.{prediction}
use Rattle.synthesis.proofs.Fits.{all_fit-take, all_fit-cons}

pub record Remembers (past memory : List ℤ) : Type 0 where
  pub front : memory ≡ take 10 past
  pub fit : AllFit w16 memory

-- before the first sample
pub memory_start : {past memory given : List ℤ} → past ≡ memory → memory ≡ given → length given ≤ 10 → AllFit w16 given →
    Remembers past memory
memory_start {given = given} e r h f = record {
  front = sym (ap (take 10) (e ∙ r) ∙ take_all 10 given h ∙ sym r);
  fit = subst (AllFit w16) (sym r) f;
}

module _ {past memory : List ℤ} (m : Remembers past memory) where
  -- what `remembered` answers, of a sample whose bits are read, is the front with the newer sample
  pub memory_step : (z : ℤ) {next answer : List ℤ} → mag z < 2 ^ 15 → let y = to_z w16 (of_z w16 z) in
      y ∷ past ≡ next → answer ≡ y ∷ take 9 memory → Remembers next answer
  memory_step z h e r =
      let y = to_z w16 (of_z w16 z) in
      let f : SFits w16 y = need_cast {w = w16} (is-mag z h) (record { sfits = h }) in
      record {
        front = r ∙ ap (λ (q : List ℤ). y ∷ q) (ap (take 9) m.front ∙ take-take 9 10 past (omega arith)) ∙ ap (take 10) e;
        fit = subst (AllFit w16) (sym r) (all_fit-cons f (all_fit-take 9 m.fit));
      }

  -- what is predicted from the memory is what is predicted from all
  pub memory_prediction : (a : List ℤ) → prediction a memory ≡ prediction a past
  memory_prediction a =
      ap (prediction a) m.front
      ∙ sum_ext (λ j. entry a j *ℤ entry (take 10 past) j) (λ j. entry a j *ℤ entry past j) 10 (λ j h. rw (get_or-take 10 past j (pos 0) h))
