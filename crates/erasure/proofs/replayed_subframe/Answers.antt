use Rattle.std.proofs.Common.{◌≡◌, ◌+◌, ◌-◌, ◌%◌, ◌≤◌, ℕ, ℤ, pos, refl, sym, ap, ◌∙◌, rules, arith, w16, w32, to_z, of_z, to_z-of_z}
use Rattle.std.proofs.Math.Nat.{mod-eq_of_lt, mod-eq-sub-mod}
use Rattle.integers.specs.Base.{entry, tabulate}
use Rattle.integers.specs.Fill.{fills_start, fills_next, fills_end}
use Rattle.basicop.specs.Operators.{mult16}
use Rattle.adaptive.specs.Adaptive.{limited_lag}
use Rattle.adaptive.proofs.Bounds.{limited-lag_bounds}
use Rattle.adaptive.proofs.Fill.{fills_at}
use Rattle.erasure.specs.Erasure.{replayed}
use Rattle.erasure.proofs.replayed_subframe.Goals as goal
use Rattle.erasure.proofs.replayed_subframe.Goals.{then-n-l, else-n-l}

pub loop-n-init : goal.loop-n-init
loop-n-init c = fills_start refl

pub loop-n-preserved : goal.loop-n-preserved
loop-n-preserved c =
    let n = c.loop-n.n in
    let l = c.limited_lag-l.result in
    let at : ℕ → ℤ = λ k. mult16 (entry c.args.signal.now (c.subframe_place.result - l + k)) (to_z w16 (of_z w16 c.args.gain)) in
    let least : 18 ≤ l = rw c.limited_lag-l.ensures (limited-lag_bounds (to_z w32 (of_z w32 c.from.result))).0 in
    let stored : to_z w16 c.if-n-l.out-bits ≡ at (n % l) =
    elim c.if-n-l.branch [
      | then-n-l w ↦ let is : to_z w16 c.if-n-l.out-bits ≡ at n = search rules in is ∙ sym (ap at (mod-eq_of_lt w.if-n-l.true))
      | else-n-l w ↦
          let is : to_z w16 c.if-n-l.out-bits ≡ entry c.loop-n.out (n - l) = search rules in
          is ∙ fills_at c.loop-n.invariant (n - l) (pos 0) (omega arith) ∙ sym (ap at (mod-eq-sub-mod {n = n} {m = l} w.if-n-l.false))
    ]
    in
    fills_next c.loop-n.invariant c.loop-n-test.true stored

pub returns : goal.returns
unfolding replayed
returns c =
    let read : to_z w32 (of_z w32 c.from.result) ≡ pos c.args.lag = search rules in
    let lag : c.limited_lag-l.result ≡ limited_lag (pos c.args.lag) = c.limited_lag-l.ensures ∙ ap limited_lag read in
    let place = c.subframe_place.ensures in
    let gain = to_z-of_z {w = w16} c.ranges.gain in
    fills_end c.loop-n.invariant c.loop-n-test.false
    ∙ (λ k. tabulate (λ n. mult16 (entry c.args.signal.now (place k - lag k + n % lag k)) (gain k)) 60)
