-- Whether an erased frame is voiced, and at which lag (document 01, "Erasure"; the Rust's classify_erasure_voicing; §3.10.2 of G.723.1). y is the last 120 samples of output.
use Rattle.std.specs.Prelude.{Bool, cond, ◌&&◌, Option, Some, None, List, ℕ, zero, suc, ◌-◌, ◌*◌, ◌/◌, ◌≤◌, ◌<◌, ltb, leb, ℤ, pos, nat_abs, ◌+ℤ◌, ◌-ℤ◌}
use Rattle.std.specs.Int.Signed.{lt_z}
use Rattle.tables.specs.Constants.{lag_reach, classifier_history, voicing_gate, voicing_rank_one}
use Rattle.correlation.specs.Correlation.{correlation, energy}
use Rattle.adaptive.specs.Adaptive.{limited_lag}

-- ---- a lag

module _ (y : List ℤ) where
  -- of the samples that have one m before them: their products with those, the energy of those, and their own
  abbrev pub lag_correlation : ℕ → ℤ
  lag_correlation m = correlation y m y 0 (classifier_history - m)

  abbrev pub earlier_energy : ℕ → ℤ
  earlier_energy m = energy y 0 (classifier_history - m)

  abbrev pub later_energy : ℕ → ℤ
  later_energy m = energy y m (classifier_history - m)

  -- whether a lag counts: it is below 120, and all three are above 0
  unfoldable pub counts : ℕ → Bool
  counts m = ltb m classifier_history && (lt_z (pos 0) (lag_correlation m) && (lt_z (pos 0) (earlier_energy m) && lt_z (pos 0) (later_energy m)))

  -- the sums c, e and t of one that counts
  abbrev pub c : ℕ → ℕ
  c m = nat_abs (lag_correlation m)

  abbrev pub e : ℕ → ℕ
  e m = nat_abs (earlier_energy m)

  abbrev pub t : ℕ → ℕ
  t m = nat_abs (later_energy m)

  -- c²/(e t) in 2 ^ 30ths, with a floor
  abbrev pub rank : ℕ → ℕ
  rank m = c m * c m * voicing_rank_one / (e m * t m)

  -- how a lag ranks among others: one that counts above all that do not
  unfoldable pub score : ℕ → ℕ
  score m = cond (counts m) (suc (rank m)) 0

  -- whether 8 c² is at least e t
  abbrev pub gated : ℕ → Bool
  gated m = leb (e m * t m) (voicing_gate * (c m * c m))

-- ---- the lags around the centre

-- the k-th of seven, from 0: three before the centre to three after it, each limited to 18 ..= 142
abbrev pub candidate : ℕ → ℕ → ℕ
candidate centre k = limited_lag (pos centre +ℤ pos k -ℤ pos lag_reach)

-- the place of the first highest of f 0, f 1, …, f n
unfoldable pub first_highest : (ℕ → ℕ) → ℕ → ℕ
first_highest f zero = 0
first_highest f (suc n) = let k = first_highest f n in cond (ltb (f k) (f (suc n))) (suc n) k

-- none is higher, and those before it are lower (proofs/Highest.antt)
abbrev pub FirstHighest : Type 0
FirstHighest =
    (f : ℕ → ℕ) (n : ℕ) → ((i : ℕ) → i ≤ n → f i ≤ f (first_highest f n)) × ((i : ℕ) → i < first_highest f n → f i < f (first_highest f n))

-- the lag that ranks highest, the first of equals
unfoldable pub leading_lag : List ℤ → ℕ → ℕ
leading_lag y centre = candidate centre (first_highest (λ k. score y (candidate centre k)) (2 * lag_reach))

-- voiced at that lag, if it counts and passes the gate
unfoldable pub voicing_of : List ℤ → ℕ → Option ℕ
voicing_of y centre = let m = leading_lag y centre in cond (counts y m && gated y m) (Some m) None
