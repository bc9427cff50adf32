-- Formant, tilt and gain of one subframe, with their memory (document 01, "Formant, tilt, gain"; the Rust's formant_agc_subframe; §3.8 and §3.9, eq. 49 to 52 of G.723.1). The memory is the code's struct: `num_mem` and `den_mem`, the ten samples before the subframe at the filter's input and output, the most recent first; `tilt_prev`, the filter's last output; `tilt_k1`, the smoothed tilt; `agc_gain_q12`, the gain.
use Rattle.std.specs.Prelude.{cond, List, ◌∷◌, ℕ, zero, suc, ◌+◌, ◌-◌, ◌*◌, ◌/◌, ◌^◌, min, eqb, ℤ, pos, negsuc, nat_abs, ◌+ℤ◌, ◌-ℤ◌, ◌*ℤ◌}
use Rattle.std.specs.Int.Signed.{quot_z}
use Rattle.integers.specs.Base.{floor_div, limited, entry, tabulate}
use Rattle.tables.specs.Constants.{subframe_size, tilt_kept, tilt_parts, agc_one, agc_max, agc_step, agc_boost}
use Rattle.basicop.specs.Operators.{word16}
use Rattle.isqrt.specs.Root.{root}
use Rattle.correlation.specs.Correlation.{correlation, energy}
use Rattle.filters.specs.Filters.{last_ten}
use Rattle.formant.specs.Formant.{formant, formant_memory}
use Rattle.postfilter.specs.declared.Postfilter.{Postfilter}

-- ---- tilt (eq. 49.1, 49.2)

-- r1/r0 in 32768ths, truncated towards zero
abbrev pub tilt_quotient : ℤ → ℕ → ℤ
tilt_quotient r1 r0 = quot_z (r1 *ℤ pos 32768) (pos r0)

-- limited to 16 bits; 0 where r0 is
abbrev pub tilt_of : ℤ → ℕ → ℤ
tilt_of r1 r0 = cond (eqb r0 0) (pos 0) (limited (negsuc 32767) (pos 32767) (tilt_quotient r1 r0))

-- that of a subframe: r1 is its correlation with itself a sample later, r0 its energy
abbrev pub tilt : List ℤ → ℤ
tilt y = tilt_of (correlation y 1 y 0 (subframe_size - 1)) (nat_abs (energy y 0 subframe_size))

-- three parts of the old tilt and one of the new, rounded
abbrev pub smoothed : ℤ → ℤ → ℤ
smoothed k1 k = word16 (floor_div (pos tilt_kept *ℤ k1 +ℤ k +ℤ pos (tilt_parts / 2)) tilt_parts)

-- a sample less a quarter of the tilt k1 times the sample before it
abbrev pub compensated_sample : ℤ → ℤ → ℤ → ℤ
compensated_sample k1 z before = word16 (z -ℤ floor_div (floor_div k1 tilt_parts *ℤ before) 32768)

-- the subframe z so compensated; before it came `prev`
unfoldable pub compensated : ℤ → ℤ → List ℤ → List ℤ
compensated k1 prev z = tabulate (λ n. compensated_sample k1 (entry z n) (entry (prev ∷ z) n)) subframe_size

-- ---- gain (eq. 50 to 52)

-- the root of the energies' quotient e/f, in 4096ths
abbrev pub gain_root : ℕ → ℕ → ℕ
gain_root e f = root (e * 2 ^ 24 / f)

-- at most 2 ^ 20; 4096, which is 1, where f is 0
abbrev pub gain_target : ℕ → ℕ → ℕ
gain_target e f = cond (eqb f 0) agc_one (min (gain_root e f) agc_max)

-- a gain, moved towards t by the floor of a sixteenth of the distance
abbrev pub towards : ℤ → ℤ → ℤ
towards t g = g +ℤ floor_div (t -ℤ g) agc_step

-- the gain after n samples
unfoldable pub gain_after : ℤ → ℤ → ℕ → ℤ
gain_after t g zero = g
gain_after t g (suc n) = towards t (gain_after t g n)

-- z times a gain in 4096ths, times 17/16, rounded and limited
abbrev pub gained_sample : ℤ → ℤ → ℤ
gained_sample g z = word16 (floor_div (z *ℤ g *ℤ pos agc_boost +ℤ pos 32768) 65536)

-- the subframe z, with the gain moved before each sample
unfoldable pub gained : ℤ → ℤ → List ℤ → List ℤ
gained t g z = tabulate (λ n. gained_sample (gain_after t g (n + 1)) (entry z n)) subframe_size

-- ---- all of it

-- The subframe y, with the coefficients a, from the memory m.
module _ (m : Postfilter) (a y : List ℤ) where
  -- what the formant filter makes of it, the tilt, what the tilt makes of that, and the gain to move to
  abbrev pub formant_of : List ℤ
  formant_of = formant a y m.num_mem m.den_mem

  abbrev pub tilt_after : ℤ
  tilt_after = smoothed m.tilt_k1 (tilt y)

  abbrev pub compensated_of : List ℤ
  compensated_of = compensated tilt_after m.tilt_prev formant_of

  abbrev pub target_of : ℤ
  target_of = pos (gain_target (nat_abs (energy y 0 subframe_size)) (nat_abs (energy compensated_of 0 subframe_size)))

  -- the sixty samples
  unfoldable pub filtered : List ℤ
  filtered = gained target_of m.agc_gain_q12 compensated_of

  -- the memory after them
  unfoldable pub postfilter_after : Postfilter
  postfilter_after = record {
    num_mem = last_ten y;
    den_mem = formant_memory a y m.num_mem m.den_mem;
    tilt_prev = entry formant_of (subframe_size - 1);
    tilt_k1 = tilt_after;
    agc_gain_q12 = gain_after target_of m.agc_gain_q12 subframe_size;
  }
