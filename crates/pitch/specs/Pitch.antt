-- The pitch postfilter of one subframe (document 01, "Pitch postfilter"; the Rust's pitch_postfilter; eq. 42 to 47 of G.723.1). The signal x is the excitation history of 146 samples, then the frame's 240; the subframe stands at the place p.
use Rattle.std.specs.Prelude.{cond, Option, Some, None, List, ℕ, ◌+◌, ◌*◌, ◌/◌, ◌^◌, ltb, leb, eqb, ℤ, pos, nat_abs, ◌+ℤ◌, ◌*ℤ◌}
use Rattle.integers.specs.Base.{floor_div, entry, tabulate}
use Rattle.tables.specs.Constants.{subframe_size, ltp_gamma_high, ltp_gamma_low, pitch_gate}
use Rattle.isqrt.specs.Root.{root}
use Rattle.correlation.specs.Correlation.{energy}
use Rattle.excitation.specs.declared.Rate.{Rate}
use Rattle.excitation.specs.declared.Rate.TheVariants.{High, Low}
use Rattle.lags.specs.Lags.{window, chosen_lag}
use Rattle.lags.specs.declared.Choice.{Choice}

-- ---- the gain (eq. 46)

-- c/d in 32768ths, at most 32767
abbrev pub gain : ℕ → ℕ → ℕ
gain c d = cond (leb d c) 32767 (c * 32768 / d)

abbrev pub gamma : Rate → ℕ
gamma High = ltp_gamma_high
gamma Low = ltp_gamma_low

-- weighted by rate
abbrev pub weight : Rate → ℕ → ℕ → ℕ
weight rate c d = gain c d * gamma rate / 32768

-- ---- the subframe with a part of another (eq. 42)

-- the subframe itself
abbrev pub unchanged : List ℤ → ℕ → List ℤ
unchanged x p = tabulate (λ n. entry x (p + n)) subframe_size

-- a sample s with the part w of the sample y
abbrev pub mixed_sample : ℕ → ℤ → ℤ → ℤ
mixed_sample w s y = s +ℤ floor_div (pos w *ℤ y) 32768

-- the subframe with the part w of the sixty samples at q
unfoldable pub mixed : List ℤ → ℕ → ℕ → ℕ → List ℤ
mixed x p q w = tabulate (λ n. mixed_sample w (entry x (p + n)) (entry x (q + n))) subframe_size

-- ---- the level (eq. 47)

-- the root of the energies' quotient t/e, in 32768ths
abbrev pub level : ℕ → ℕ → ℕ
level t e = root (t * 2 ^ 30 / e)

-- z times g in 32768ths, rounded
abbrev pub level_sample : ℕ → ℤ → ℤ
level_sample g z = floor_div (z *ℤ pos g +ℤ pos 16384) 32768

-- v brought down to the energy t; where its energy is less, v
unfoldable pub levelled : List ℤ → ℕ → List ℤ
levelled v t =
    let e = nat_abs (energy v 0 subframe_size) in
    cond (ltb e t) v (tabulate (λ n. level_sample (level t e) (entry v n)) subframe_size)

-- ---- all of it

-- with the chosen lag, for a subframe of the energy t: unchanged where no lag counts, or where 4 c² is less than d t (eq. 45, 46)
unfoldable pub applied : List ℤ → Rate → ℕ → ℕ → Option Choice → List ℤ
applied x rate p t choice = elim choice [
  | None ↦ unchanged x p
  | Some k ↦ let b = k.best in cond (ltb (pitch_gate * (b.c * b.c)) (b.d * t)) (unchanged x p) (levelled (mixed x p (window k.to p b.lag) (weight rate b.c b.d)) t)
]

-- the subframe at p, with a lag already limited; unchanged where its energy (eq. 44.3) is 0
unfoldable pub postfiltered : List ℤ → Rate → ℕ → ℕ → List ℤ
postfiltered x rate p lag =
    let t = nat_abs (energy x p subframe_size) in
    cond (eqb t 0) (unchanged x p) (applied x rate p t (chosen_lag x p lag))
