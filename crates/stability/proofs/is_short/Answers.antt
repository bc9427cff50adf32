use Rattle.std.proofs.Common.{◌≡◌, ℤ, rules}
use Rattle.std.specs.Int.Signed.{lt_z}
use Rattle.stability.proofs.is_short.Goals as goal

tested : {x y u v : ℤ} → x ≡ u → y ≡ v → lt_z x y ≡ lt_z u v
tested e f = λ i. lt_z (e i) (f i)

pub returns : goal.returns
returns c = search (rules, tested)
