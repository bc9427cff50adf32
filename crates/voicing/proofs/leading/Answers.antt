use Rattle.std.proofs.Common.{◌≡◌, ℕ, ◌-◌, ap, ◌∙◌, subst, arith}
use Rattle.voicing.specs.Search.{Weighs}
use Rattle.voicing.proofs.Leaders.{leader, leads-start, leads-next, leads_end}
use Rattle.voicing.proofs.leading.Goals as goal

pub loop-k-init : goal.loop-k-init
loop-k-init c =
    let y = c.args.pcm_hist.now in
    let w = c.weighed-best in
    leads-start y c.args.centre w.result (subst (λ (m : ℕ). Weighs y m w.result) c.candidate_lag.ensures w.ensures)

pub loop-k-preserved : goal.loop-k-preserved
loop-k-preserved c =
    let y = c.args.pcm_hist.now in
    let w = c.weighed in
    leads-next y c.args.centre c.loop-k.k (omega arith) c.loop-k.best w.result c.higher-best.result c.loop-k.invariant
    (subst (λ (m : ℕ). Weighs y m w.result) c.candidate_lag-in-loop-k.ensures w.ensures) c.higher-best.ensures

pub returns : goal.returns
returns c =
    let y = c.args.pcm_hist.now in
    let turns : c.loop-k.k - 1 ≡ 6 = omega arith in
    subst (λ (m : ℕ). Weighs y m c.loop-k.best) (ap (leader y c.args.centre) turns ∙ leads_end y c.args.centre) c.loop-k.invariant
