-- A gain moves towards its target and stays between both; no target is above 2 ^ 20, and no tilt above 2 ^ 15.
use mathlib.Core.List.{List}
use Prim.Native.Nat.{ℕ, zero, suc, ◌≤◌, min}
use native.Mathlib.Omega.{arith}
use lib.Dec.{eqb, lit≤}
use lib.IntN.{ℤ, pos, negsuc, nat_abs, ◌-ℤ◌}
use lib.Signed.{◌≤ℤ◌}
use mir.Syntax.{w16}
use Rattle.integers.specs.Base.{floor_div, limited, Within}
use Rattle.integers.specs.Bound.{within-lit, within-fits}
use Rattle.integers.specs.Natural.{cond_elim}
use Rattle.integers.specs.Linear.{line, line-add, line-sub, line-shr, fits-between}
use Rattle.integers.specs.Limit.{limited_bounds}
use Rattle.correlation.specs.Correlation.{energy}
use Rattle.postfilter.specs.declared.Postfilter.{Postfilter}
use Rattle.postfilter.specs.Postfilter.{tilt_quotient, tilt_of, towards, gain_after, gain_root, gain_target, compensated_of, target_of, postfilter_after}

-- ---- gains

-- bounds of the target and the gain are bounds of the gain a sample later
pub towards-between : (t g low high : ℤ) → low ≤ℤ t → t ≤ℤ high → low ≤ℤ g → g ≤ℤ high → (low ≤ℤ towards t g) × (towards t g ≤ℤ high)
towards-between t g low high a b c d = omega (line, line-sub t g, line-shr (t -ℤ g) 16 (lit≤ tt), line-add g (floor_div (t -ℤ g) 16))

-- and after any number of samples
module _ (t g low high : ℤ) (a : low ≤ℤ t) (b : t ≤ℤ high) (c : low ≤ℤ g) (d : g ≤ℤ high) where
  pub gain-between : (n : ℕ) → (low ≤ℤ gain_after t g n) × (gain_after t g n ≤ℤ high)
  unfolding gain_after
  gain-between zero = (c, d)
  gain-between (suc n) = let h = gain-between n in towards-between t (gain_after t g n) low high a b h.0 h.1

pub gain-stays : (t g : ℤ) → pos 0 ≤ℤ t → t ≤ℤ pos 1048576 → pos 0 ≤ℤ g → g ≤ℤ pos 1048576 → (n : ℕ) →
    (pos 0 ≤ℤ gain_after t g n) × (gain_after t g n ≤ℤ pos 1048576)
gain-stays t g = gain-between t g (pos 0) (pos 1048576)

pub gain_target_most : (e f : ℕ) → gain_target e f ≤ 1048576
gain_target_most e f =
    cond_elim (eqb f 0) 4096 (min (gain_root e f) 1048576) (λ n. n ≤ 1048576) (λ t. omega arith) (λ t. omega arith)

-- so the gain of the memory stays in range
pub memory_gain : (m : Postfilter) (a y : List ℤ) → pos 0 ≤ℤ m.agc_gain_q12 → m.agc_gain_q12 ≤ℤ pos 1048576 →
    (pos 0 ≤ℤ (postfilter_after m a y).agc_gain_q12) × ((postfilter_after m a y).agc_gain_q12 ≤ℤ pos 1048576)
unfolding postfilter_after
memory_gain m a y h k =
    let most = gain_target_most (nat_abs (energy y 0 60)) (nat_abs (energy (compensated_of m a y) 0 60)) in
    gain-stays (target_of m a y) m.agc_gain_q12 (omega line) (omega line) h k 60

-- ---- tilts

pub tilt-within : (r1 : ℤ) (r0 : ℕ) → Within 32768 (tilt_of r1 r0)
tilt-within r1 r0 =
    let k = limited (negsuc 32767) (pos 32767) (tilt_quotient r1 r0) in
    let b = limited_bounds (negsuc 32767) (pos 32767) (tilt_quotient r1 r0) (omega line) in
    cond_elim (eqb r0 0) (pos 0) k (Within 32768) (λ t. within-lit tt) (λ t. within-fits (fits-between {w = w16} 32767 k b.0 b.1 tt))
