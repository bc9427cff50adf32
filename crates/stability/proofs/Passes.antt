-- A pass and its tests by steps, and the passes by turns.
use Rattle.std.specs.Prelude.{◌≡◌, refl, Bool, true, false, cond, ◌||◌, List, ℕ, zero, suc, ◌+◌, ◌-◌, ◌<◌, ◌≤◌, ℤ}
use Rattle.std.proofs.Common.{sym, ap, ◌∙◌, add-one, add-zero, add-suc, suc-add, arith}
use Rattle.std.proofs.Math.Bool.{or_assoc, or-true, or-false}
use Rattle.std.specs.List.{list_any, range_with_len}
use Rattle.stability.specs.Stability.{short, spread, pass_to, any_to, pass, pass_moves, passes}

-- ---- by steps

pub pass-zero : (m : ℤ) (p : List ℤ) → pass_to m p 0 ≡ p
unfolding pass_to
pass-zero m p = refl

pub pass_step : (m : ℤ) (p : List ℤ) (j : ℕ) → pass_to m p (j + 1) ≡ cond (short m (pass_to m p j) j) (spread m (pass_to m p j) j) (pass_to m p j)
unfolding pass_to
pass_step m p j = ap (pass_to m p) (add-one j)

pub any_zero : (t : ℕ → Bool) → any_to t 0 ≡ false
unfolding any_to
any_zero t = refl

pub any_step : (t : ℕ → Bool) (j : ℕ) → any_to t (j + 1) ≡ (any_to t j || t j)
unfolding any_to
any_step t j = ap (any_to t) (add-one j)

-- ---- a pass under way

module _ (m : ℤ) (p : List ℤ) where
  -- q and `moved` after the turns of the first j pairs
  pub record Passed (j : ℕ) (q : List ℤ) (moved : Bool) : Type 0 where
    pub lsps : q ≡ pass_to m p j
    pub moves : moved ≡ any_to (λ k. short m (pass_to m p k) k) j

  pub passed-start : Passed 0 p false
  unfolding pass_to any_to
  passed-start = record { lsps = refl; moves = refl }

  module _ (j : ℕ) (q : List ℤ) (moved : Bool) (t : Passed j q moved) {b : Bool} (e : short m q j ≡ b) where
    told : short m (pass_to m p j) j ≡ b
    told = ap (λ (r : List ℤ). short m r j) (sym t.lsps) ∙ e

    turned : pass_to m p (j + 1) ≡ cond b (spread m q j) q
    unfolding pass_to
    turned = ap (pass_to m p) (add-one j) ∙ (λ i. cond (told i) (spread m (sym t.lsps i) j) (sym t.lsps i))

    one_more : any_to (λ k. short m (pass_to m p k) k) (j + 1) ≡ (moved || b)
    unfolding any_to
    one_more = ap (any_to (λ k. short m (pass_to m p k) k)) (add-one j) ∙ (λ i. sym t.moves i || told i)

  -- the turn of a pair with a short gap, and of another
  pub passed-moved : {j : ℕ} {q : List ℤ} {moved : Bool} → Passed j q moved → short m q j ≡ true → Passed (j + 1) (spread m q j) true
  passed-moved {j} {q} {moved} t e = record { lsps = sym (turned j q moved t e); moves = sym (one_more j q moved t e ∙ or-true moved) }

  pub passed-kept : {j : ℕ} {q : List ℤ} {moved : Bool} → Passed j q moved → short m q j ≡ false → Passed (j + 1) q moved
  passed-kept {j} {q} {moved} t e = record { lsps = sym (turned j q moved t e); moves = sym (one_more j q moved t e ∙ or-false moved) }

-- ---- tests over a range

pub any_range : (t : ℕ → Bool) (a n : ℕ) → any_to t (a + n) ≡ (any_to t a || list_any t (range_with_len a n))
unfolding any_to
any_range t a zero = ap (any_to t) (add-zero a) ∙ sym (or-false (any_to t a))
any_range t a (suc n) =
    ap (any_to t) (add-suc a n ∙ sym (suc-add a n))
    ∙ any_range t (suc a) n
    ∙ or_assoc (any_to t a) (t a) (list_any t (range_with_len (suc a) n))
    ∙ ap (λ (k : ℕ). any_to t a || (t a || list_any t (range_with_len k n))) (sym (add-one a))

-- ---- the passes from a turn on

module _ (m : ℤ) (N n : ℕ) (p : List ℤ) where
  pub turn : n < N → passes m (N - n) p ≡ cond (pass_moves m p) (passes m (N - (n + 1)) (pass m p)) p
  unfolding passes
  turn h = let e : N - n ≡ suc (N - (n + 1)) = omega arith in ap (λ (k : ℕ). passes m k p) e

  pub no_turn : N ≤ n → passes m (N - n) p ≡ p
  unfolding passes
  no_turn h = let e : N - n ≡ 0 = omega arith in ap (λ (k : ℕ). passes m k p) e
