use Rattle.std.proofs.Common.{◌≡◌, ℕ, ◌+◌, ◌^◌, ◌<◌, ◌≤◌, Bool, true, false, not, List, ℤ, pos, nat_abs, sym, ap, ◌∙◌, subst, arith}
use borrow.Author.Tests.{lt-ltb, le-ltb}
use lib.Signed.{mag, lt_z, le_z}
use mir.Syntax.{w64}
use mir.Val.{to_z, of_z, hbits}
use Rattle.integers.specs.Signed.{back}
use Rattle.integers.specs.Truth.{lt_z_not_le_z}
use Rattle.correlation.specs.Correlation.{correlation}
use Rattle.lags.specs.Lags.{window, lag_correlation, lag_energy, counts}
use Rattle.lags.specs.declared.Direction.{Direction}
use Rattle.lags.proofs.Lags.{counts-not-inside, counts-not-alike, counts-not-loud, counts_all}
use Rattle.lags.proofs.Searches.{leads_uncounted, leads_beaten}
use Rattle.lags.proofs.offered.Goals as goal

-- the lag's correlation, as it is read from the call's bits
read_is : (x : List ℤ) (to : Direction) (p m q : ℕ) (r : ℤ) → mag r < 2 ^ hbits w64 → r ≡ correlation x p x q 60 → q ≡ window to p m
    → to_z w64 (of_z w64 r) ≡ lag_correlation x to p m
read_is x to p m q r f e w = back w64 f (e ∙ ap (λ (q : ℕ). correlation x p x q 60) w)

alike : (read meant : ℤ) (t : Bool) → read ≡ meant → le_z read (pos 0) ≡ t → lt_z (pos 0) meant ≡ not t
alike read meant t is e = sym (ap (lt_z (pos 0)) is) ∙ lt_z_not_le_z read (pos 0) ∙ ap not e

loud : (energy : ℤ) (d : ℕ) (t : Bool) → pos d ≡ energy → lt_z (pos 0) (pos d) ≡ t → lt_z (pos 0) energy ≡ t
loud energy d t is e = sym (ap (lt_z (pos 0)) is) ∙ e

-- a lag that passes the three tests counts
counted : (x : List ℤ) (to : Direction) (p m q d : ℕ) (r : ℤ) → q ≡ window to p m → q + 60 ≤ 386
    → r ≡ lag_correlation x to p m → le_z r (pos 0) ≡ false → pos d ≡ lag_energy x to p m → 0 < d → counts x to p m ≡ true
counted x to p m q d r w inside is above energy h =
    counts_all x to p m (subst (λ (q : ℕ). q + 60 ≤ 386) w inside) (alike r (lag_correlation x to p m) false is above)
    (loud (lag_energy x to p m) d true energy (lt-ltb 0 d h))

pub returns-then-q-gt-SIGNAL_SIZE-clause-leads_2 : goal.returns-then-q-gt-SIGNAL_SIZE-clause-leads_2
returns-then-q-gt-SIGNAL_SIZE-clause-leads_2 c =
    let a = c.args in
    let past = subst (λ (q : ℕ). 386 < q + 60) c.requires.q_value c.if-q-gt-SIGNAL_SIZE.true in
    leads_uncounted a.x.now a.to a.p a.lo a.k a.best c.requires.leads (counts-not-inside a.x.now a.to a.p (a.lo + a.k) past)

pub returns-then-d-eq0-clause-leads_2 : goal.returns-then-d-eq0-clause-leads_2
returns-then-d-eq0-clause-leads_2 c =
    let a = c.args in
    let silent = loud (lag_energy a.x.now a.to a.p (a.lo + a.k)) a.d false c.requires.d_value (le-ltb 0 a.d (omega (arith, c.if-d-eq0.true))) in
    leads_uncounted a.x.now a.to a.p a.lo a.k a.best c.requires.leads (counts-not-loud a.x.now a.to a.p (a.lo + a.k) silent)

pub returns-then-s-le0-clause-leads_2 : goal.returns-then-s-le0-clause-leads_2
returns-then-s-le0-clause-leads_2 c =
    let a = c.args in
    let s = c.correlate-s in
    let is = read_is a.x.now a.to a.p (a.lo + a.k) a.q s.result s.type_inv s.ensures.value c.requires.q_value in
    let not_alike = alike (to_z w64 (of_z w64 s.result)) (lag_correlation a.x.now a.to a.p (a.lo + a.k)) true is c.if-s-le0.true in
    leads_uncounted a.x.now a.to a.p a.lo a.k a.best c.requires.leads (counts-not-alike a.x.now a.to a.p (a.lo + a.k) not_alike)

pub returns-then-is_better-clause-leads_2 : goal.returns-then-is_better-clause-leads_2
returns-then-is_better-clause-leads_2 c =
    let a = c.args in
    let s = c.correlate-s in
    let is = read_is a.x.now a.to a.p (a.lo + a.k) a.q s.result s.type_inv s.ensures.value c.requires.q_value in
    let all = counted a.x.now a.to a.p (a.lo + a.k) a.q a.d (to_z w64 (of_z w64 s.result)) c.requires.q_value c.if-q-gt-SIGNAL_SIZE.false is c.if-s-le0.false c.requires.d_value (omega (arith, c.if-d-eq0.false)) in
    leads_beaten a.x.now a.to a.p a.lo a.k all (ap nat_abs is) (ap nat_abs c.requires.d_value) a.best c.requires.leads (sym c.is_better.ensures ∙ c.if-is_better.true)
