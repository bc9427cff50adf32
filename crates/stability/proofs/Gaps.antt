-- Gaps of stabilised LSPs, and what the three outcomes say of them: the theorems of specs/Gaps.antt.
use mathlib.Core.Path.{◌≡◌, refl, sym, ap, ◌∙◌, subst}
use mathlib.Core.Bool.{Bool, true, false, cond, ◌||◌}
use mathlib.Core.List.{List}
use mathlib.Core.Logic.{⊎_elim}
use Prim.Native.Nat.{ℕ, zero, suc, ◌-◌, ◌≤◌, ◌<◌}
use native.Mathlib.Nat.{eq-or-lt_of_le}
use native.Mathlib.Omega.{arith}
use lib.IntN.{ℤ}
use lib.Signed.{lt_z, ◌≤ℤ◌}
use Rattle.integers.specs.Linear.{line}
use Rattle.integers.specs.Truth.{neither, clash}
use Rattle.tables.specs.Constants.{stability_passes}
use Rattle.stability.specs.declared.Outcome.{Outcome}
use Rattle.stability.specs.declared.Outcome.TheVariants.{Untouched, Moved, Previous}
use Rattle.stability.specs.Stability.{gap, short, spread, pass_to, pass, pass_moves, any_to, any_short, passes, outcome_of, lsps_used}
use Rattle.stability.specs.Gaps.{Spaced, Short, UntouchedSpaced, MovedSpaced, PreviousShort, AllPassesMoved}

-- ---- tests

below : (t : ℕ → Bool) (n : ℕ) → ((j : ℕ) → j < n → t j ≡ false) → t n ≡ false → (j : ℕ) → j < suc n → t j ≡ false
below t n f e j h =
    let k : j ≤ n = omega arith in
    ⊎_elim (λ (q : j ≡ n). ap t q ∙ e) (λ (l : j < n). f j l) (eq-or-lt_of_le k)

any_false_each : (t : ℕ → Bool) (n : ℕ) → any_to t n ≡ false → (j : ℕ) → j < n → t j ≡ false
unfolding any_to
any_false_each t zero e j h = absurd (let z : ⊥ = omega arith in z)
any_false_each t (suc n) e j h = let b = neither (any_to t n) (t n) e in below t n (any_false_each t n b.0) b.1 j h

each_false_any : (t : ℕ → Bool) (n : ℕ) → ((j : ℕ) → j < n → t j ≡ false) → any_to t n ≡ false
unfolding any_to
each_false_any t zero f = refl
each_false_any t (suc n) f = λ i. each_false_any t n (λ j h. f j (omega arith)) i || f n (omega arith) i

wide_gap : (m z : ℤ) → m ≤ℤ z → lt_z z m ≡ false
wide_gap m z h = decided (lt_z z m) refl
  where
    decided : (b : Bool) → lt_z z m ≡ b → b ≡ false
    decided true e = absurd (let c : ⊥ = omega line in c)
    decided false e = refl

-- a test that holds, where one does
record Holds (t : ℕ → Bool) (n : ℕ) : Type 0 where
  place : ℕ
  inside : place < n
  holds : t place ≡ true

any_true_one : (t : ℕ → Bool) (n : ℕ) → any_to t n ≡ true → Holds t n
unfolding any_to
any_true_one t zero e = clash e refl
any_true_one t (suc n) e = decided (any_true_one t n) (any_to t n) refl (t n) refl e
  where
    decided : (any_to t n ≡ true → Holds t n) → (a : Bool) → any_to t n ≡ a → (b : Bool) → t n ≡ b → (a || b) ≡ true → Holds t (suc n)
    decided f true g b h o = let k = f g in record { place = k.place; inside = let i = k.inside in omega (arith, i); holds = k.holds }
    decided f false g true h o = record { place = n; inside = omega arith; holds = h }
    decided f false g false h o = clash o refl

spaced_short : (m : ℤ) (p : List ℤ) → any_short m p ≡ false → Spaced m p
spaced_short m p e = record { at = λ j h. let s : lt_z (gap p j) m ≡ false = any_false_each (short m p) 9 e j h in omega line }

-- ---- a pass without moves, and one over LSPs that have their gaps

module _ (m : ℤ) (p : List ℤ) where
  still : (n : ℕ) → ((j : ℕ) → j < n → short m (pass_to m p j) j ≡ false) → pass_to m p n ≡ p
  unfolding pass_to
  still zero f = refl
  still (suc n) f = (λ i. cond (f n (omega arith) i) (spread m (pass_to m p n) n) (pass_to m p n)) ∙ still n (λ j h. f j (omega arith))

  unmoved : (n : ℕ) → ((j : ℕ) → j < n → short m p j ≡ false) → (j : ℕ) → j < n → short m (pass_to m p j) j ≡ false
  unmoved zero f j h = absurd (let z : ⊥ = omega arith in z)
  unmoved (suc n) f j h =
      below (λ k. short m (pass_to m p k) k) n (unmoved n (λ k g. f k (omega arith)))
      (ap (λ (q : List ℤ). short m q n) (still n (unmoved n (λ k g. f k (omega arith)))) ∙ f n (omega arith)) j h

  pub unmoved_spaced : pass_moves m p ≡ false → any_short m p ≡ false
  unmoved_spaced e =
      let f = any_false_each (λ j. short m (pass_to m p j) j) 9 e in
      each_false_any (short m p) 9 (λ j h. ap (λ (q : List ℤ). short m q j) (sym (still j (λ k g. f k (omega arith)))) ∙ f j h)

  pub spaced_same : any_short m p ≡ false → pass m p ≡ p
  spaced_same e = still 9 (unmoved 9 (any_false_each (short m p) 9 e))

  spaced_unmoved : any_short m p ≡ false → pass_moves m p ≡ false
  spaced_unmoved e = each_false_any (λ j. short m (pass_to m p j) j) 9 (unmoved 9 (any_false_each (short m p) 9 e))

-- ---- what is said, of the tests that the first pass moves some and that a gap is short after the passes

abbrev said : Bool → Bool → Outcome
said moves short = cond moves (cond short Previous Moved) Untouched

pub outcome_is : (m : ℤ) (p : List ℤ) {a b : Bool} → pass_moves m p ≡ a → any_short m (passes m stability_passes p) ≡ b →
    outcome_of m p ≡ said a b
outcome_is m p e f = λ i. said (e i) (f i)

said_untouched : (a b : Bool) → said a b ≡ Untouched → a ≡ false
said_untouched true true e = cc
said_untouched true false e = cc
said_untouched false b e = refl

said-moved : (a b : Bool) → said a b ≡ Moved → (a ≡ true) × (b ≡ false)
said-moved true true e = cc
said-moved true false e = (refl, refl)
said-moved false b e = cc

said_previous : (a b : Bool) → said a b ≡ Previous → (a ≡ true) × (b ≡ true)
said_previous true true e = (refl, refl)
said_previous true false e = cc
said_previous false b e = cc

-- ---- the theorems

spaced_any : (m : ℤ) (p : List ℤ) → Spaced m p → any_short m p ≡ false
spaced_any m p s = each_false_any (short m p) 9 (λ j h. wide_gap m (gap p j) (s.at j h))

true_unless : (b : Bool) → (b ≡ false → ⊥) → b ≡ true
true_unless true h = refl
true_unless false h = absurd (h refl)

short_any : (m : ℤ) (p : List ℤ) → Short m p → any_short m p ≡ true
short_any m p s = true_unless (any_short m p) (λ e. clash s.is-short (any_false_each (short m p) 9 e s.place s.inside))

module _ (m : ℤ) (p v : List ℤ) where
  abbrev last : List ℤ
  last = passes m stability_passes p

  -- the LSPs that are used
  used : {o : Outcome} → outcome_of m p ≡ o → lsps_used (outcome_of m p) last v ≡ lsps_used o last v
  used e = ap (λ (o : Outcome). lsps_used o last v) e

  -- where the first pass moves none there is no other
  unmoved-passes : (n : ℕ) → pass_moves m p ≡ false → passes m (suc n) p ≡ p
  unfolding passes
  unmoved-passes n e = ap (λ (b : Bool). cond b (passes m n (pass m p)) p) e

  -- and no gap is short then
  unmoved-last : pass_moves m p ≡ false → any_short m last ≡ false
  unmoved-last e = ap (any_short m) (unmoved-passes (stability_passes - 1) e) ∙ unmoved_spaced m p e

  untouched_then : outcome_of m p ≡ Untouched → Spaced m p × (lsps_used (outcome_of m p) last v ≡ p)
  untouched_then e =
      let still = said_untouched (pass_moves m p) (any_short m last) e in
      (spaced_short m p (unmoved_spaced m p still), used e ∙ unmoved-passes (stability_passes - 1) still)

  untouched_if : Spaced m p → outcome_of m p ≡ Untouched
  untouched_if s = outcome_is m p (spaced_unmoved m p (spaced_any m p s)) refl

  moved_then : outcome_of m p ≡ Moved → let used = lsps_used (outcome_of m p) last v in Spaced m used × (used ≡ p → ⊥)
  moved_then e =
      let t = said-moved (pass_moves m p) (any_short m last) e in (
        subst (Spaced m) (sym (used e)) (spaced_short m last t.1),
        λ q. clash t.0 (spaced_unmoved m p (ap (any_short m) (sym q ∙ used e) ∙ t.1)),
      )

  previous_then : outcome_of m p ≡ Previous → Short m last × (lsps_used (outcome_of m p) last v ≡ v)
  previous_then e =
      let k = any_true_one (short m last) 9 (said_previous (pass_moves m p) (any_short m last) e).1 in
      (record { place = k.place; inside = k.inside; is-short = k.holds }, used e)

  previous_if : Short m last → outcome_of m p ≡ Previous
  previous_if s =
      let short = short_any m last s in
      outcome_is m p (true_unless (pass_moves m p) (λ e. clash short (unmoved-last e))) short

  all_moved : pass_moves m (passes m (stability_passes - 1) p) ≡ true → Spaced m last → outcome_of m p ≡ Moved
  all_moved h s =
      let still : pass_moves m p ≡ false → ⊥ = λ e. clash h (ap (pass_moves m) (unmoved-passes (stability_passes - 2) e) ∙ e) in
      outcome_is m p (true_unless (pass_moves m p) still) (spaced_any m last s)

pub untouched_spaced : UntouchedSpaced
untouched_spaced m p v = (untouched_then m p v, untouched_if m p v)

pub moved_spaced : MovedSpaced
moved_spaced = moved_then

pub previous_short : PreviousShort
previous_short m p v = (previous_then m p v, previous_if m p v)

pub all_passes-moved : AllPassesMoved
all_passes-moved = all_moved
