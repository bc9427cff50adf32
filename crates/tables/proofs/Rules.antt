-- The rules of specs/Rules.antt: one computed test for each of the three tables.
use Rattle.std.specs.Prelude.{◌≡◌, Bool, ◌&&◌, ℕ, ◌+◌, ◌-◌, ◌*◌, ◌/◌, ◌%◌, ◌≤◌, ◌<◌, leb, ltb, eqb, ℤ, pos, nat_abs, ◌-ℤ◌, get_or}
use Rattle.std.proofs.Common.{sym, ap, ◌∙◌, ⊎_elim, arith, leb→le, ltb→lt, eqb→eq}
use Rattle.std.proofs.Math.ListN.{get_or-eq_default}
use Rattle.integers.specs.Base.{every, entry}
use Rattle.integers.specs.Natural.{le-or-lt}
use Rattle.integers.specs.Table.{every-at, and_left, and_right}
use Rattle.tables.specs.Tables.{cosines, gains, weights}
use Rattle.tables.specs.Rules.{CosineRule, GainRule, GainDistinct, GainMost, WeightRule, first_index, choose}

-- ---- cosines

cosine_test : ℕ → ℤ → Bool
cosine_test k x = leb (nat_abs x) 16384 && leb (nat_abs (entry cosines ((k + 1) % 512) -ℤ x)) 201

pub cosine_rule : CosineRule
unfolding cosines every cosine_test
cosine_rule k h =
    let x = entry cosines k in
    let d = nat_abs (entry cosines ((k + 1) % 512) -ℤ x) in
    let t = every-at cosine_test cosines tt k h (pos 0) in
    record {
      size = record { within = leb→le (nat_abs x) 16384 (and_left (leb (nat_abs x) 16384) (leb d 201) t) };
      next = record { within = leb→le d 201 (and_right (leb (nat_abs x) 16384) (leb d 201) t) };
    }

-- ---- gains

gain_test : ℕ → ℕ → Bool
gain_test k x = ltb 0 x && (leb x 6623 && eqb (first_index gains x) k)

pub gain_rule : GainRule
unfolding gains every gain_test first_index
gain_rule k h =
    let x = get_or gains k 0 in
    let t = every-at gain_test gains tt k h 0 in
    let u = and_right (ltb 0 x) (leb x 6623 && eqb (first_index gains x) k) t in
    record {
      positive = ltb→lt 0 x (and_left (ltb 0 x) (leb x 6623 && eqb (first_index gains x) k) t);
      at_most = leb→le x 6623 (and_left (leb x 6623) (eqb (first_index gains x) k) u);
      indexed = eqb→eq (first_index gains x) k (and_right (leb x 6623) (eqb (first_index gains x) k) u);
    }

pub gain_distinct : GainDistinct
gain_distinct i j hi hj e = sym (gain_rule i hi).indexed ∙ ap (first_index gains) e ∙ (gain_rule j hj).indexed

pub gain-most : GainMost
unfolding gains
gain-most k = ⊎_elim (λ (h : 24 ≤ k). omega (arith, get_or-eq_default gains 0 h)) (λ (h : k < 24). (gain_rule k h).at_most) (le-or-lt 24 k)

-- ---- weights

weight_test : ℕ → ℕ → Bool
weight_test k x = eqb x (choose (29 - k % 30) (5 - k / 30))

binomial_at : (k : ℕ) → k < 180 → get_or weights k 0 ≡ choose (29 - k % 30) (5 - k / 30)
unfolding weights every weight_test choose
binomial_at k h = eqb→eq (get_or weights k 0) (choose (29 - k % 30) (5 - k / 30)) (every-at weight_test weights tt k h 0)

pub weight_rule : WeightRule
weight_rule m i hm hi =
    let a : (m * 30 + i) % 30 ≡ i = omega arith in
    let b : (m * 30 + i) / 30 ≡ m = omega arith in
    let e : get_or weights (m * 30 + i) 0 ≡ choose (29 - (m * 30 + i) % 30) (5 - (m * 30 + i) / 30) = binomial_at (m * 30 + i) (omega arith) in
    rw (a, b) at e
