-- The search for a pitch lag (document 01, "Pitch postfilter"; the first half of the Rust's pitch_postfilter; eq. 43 of G.723.1). The signal x is the excitation history of 146 samples, then the frame's 240; the subframe stands at the place p.
use Rattle.std.specs.Prelude.{Bool, true, cond, not, ◌&&◌, Option, Some, None, List, ℕ, zero, suc, ◌+◌, ◌-◌, ◌*◌, ◌/◌, ltb, leb, ℤ, pos, nat_abs}
use Rattle.std.specs.Int.Signed.{lt_z}
use Rattle.tables.specs.Constants.{subframe_size, frame_size, exc_hist_size, lag_reach}
use Rattle.correlation.specs.Correlation.{correlation, energy}
use Rattle.lags.specs.declared.Direction.{Direction}
use Rattle.lags.specs.declared.Direction.TheVariants.{Forward, Backward}
use Rattle.lags.specs.declared.Best.{Best}
use Rattle.lags.specs.declared.Choice.{Choice}

-- ---- the best lag in one direction (eq. 43)

-- the place of the sixty samples that the lag m means
abbrev pub window : Direction → ℕ → ℕ → ℕ
window Forward p m = p + m
window Backward p m = p - m

module _ (x : List ℤ) (to : Direction) (p : ℕ) where
  -- their correlation with the subframe (eq. 43.1 forward, 43.2 backward), and their energy
  abbrev pub lag_correlation : ℕ → ℤ
  lag_correlation m = correlation x p x (window to p m) subframe_size

  abbrev pub lag_energy : ℕ → ℤ
  lag_energy m = energy x (window to p m) subframe_size

  -- whether a lag counts: its samples do not leave the frame, and both sums are above 0
  unfoldable pub counts : ℕ → Bool
  counts m = leb (window to p m + subframe_size) (exc_hist_size + frame_size) && (lt_z (pos 0) (lag_correlation m) && lt_z (pos 0) (lag_energy m))

  -- its sums: c and d
  abbrev pub c : ℕ → ℕ
  c m = nat_abs (lag_correlation m)

  abbrev pub d : ℕ → ℕ
  d m = nat_abs (lag_energy m)

  -- whether c²/d of the lag n is above that of m, exactly
  abbrev pub exceeds : ℕ → ℕ → Bool
  exceeds n m = ltb (c m * c m * d n) (c n * c n * d m)

  -- whether none of the k lags from lo on that count exceeds m
  unfoldable pub unexceeded : ℕ → ℕ → ℕ → Bool
  unexceeded lo zero m = true
  unexceeded lo (suc k) m = unexceeded lo k m && not (counts (lo + k) && exceeds (lo + k) m)

  -- the first of the j lags from m on that counts and that none of the k lags from lo on exceeds
  unfoldable pub first_unexceeded : ℕ → ℕ → ℕ → ℕ → Option Best
  first_unexceeded lo k m zero = None
  first_unexceeded lo k m (suc j) = cond (counts m && unexceeded lo k m) (Some (record { lag = m; c = c m; d = d m })) (first_unexceeded lo k (suc m) j)

  -- the best of the k lags from lo on
  abbrev pub best_of : ℕ → ℕ → Option Best
  best_of lo k = first_unexceeded lo k lo k

-- the best of the seven lags around a lag
abbrev pub best_lag : List ℤ → Direction → ℕ → ℕ → Option Best
best_lag x to p lag = best_of x to p (lag - lag_reach) (2 * lag_reach + 1)

-- ---- the direction

-- of the larger floor of c²/d; forward where they are equal
unfoldable pub chosen : Option Best → Option Best → Option Choice
chosen None None = None
chosen None (Some b) = Some (record { to = Backward; best = b })
chosen (Some f) None = Some (record { to = Forward; best = f })
chosen (Some f) (Some b) =
    cond (ltb (f.c * f.c / f.d) (b.c * b.c / b.d)) (Some (record { to = Backward; best = b })) (Some (record { to = Forward; best = f }))

-- the best of the seven lags around a lag, in the better direction
abbrev pub chosen_lag : List ℤ → ℕ → ℕ → Option Choice
chosen_lag x p lag = chosen (best_lag x Forward p lag) (best_lag x Backward p lag)
