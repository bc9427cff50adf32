use Rattle.std.proofs.Common.{ℕ, ◌-◌, ap, ◌∙◌, w64}
use Rattle.integers.specs.Signed.{back}
use Rattle.correlation.specs.Correlation.{correlation, energy}
use Rattle.voicing.proofs.Weights.{counts_far, weighs_near}
use Rattle.voicing.proofs.weighed.Goals as goal

pub returns-then-lag-ge-HISTORY : goal.returns-then-lag-ge-HISTORY
returns-then-lag-ge-HISTORY c = counts_far c.args.pcm_hist.now c.args.lag c.if-lag-ge-HISTORY.true

pub returns : goal.returns
returns c =
    let y = c.args.pcm_hist.now in
    let m = c.args.lag in
    let s = back w64 c.correlate-s.type_inv c.correlate-s.ensures.value ∙ ap (λ (k : ℕ). correlation y k y 0 (120 - m)) c.from.ensures in
    let t = c.energy_from-t.ensures.result_value ∙ ap (λ (k : ℕ). energy y k (120 - m)) c.from-2.ensures in
    weighs_near y m s c.energy_from-e.ensures.result_value t c.if-lag-ge-HISTORY.false c.with_sums.result c.with_sums.ensures
