use Rattle.std.proofs.Common.{◌-◌, ◌*◌, ◌^◌, ◌≤◌, length, sym, ◌∙◌, subst, arith}
use native.Mathlib.Nat.{mul-le-mul_right}
use Rattle.std.specs.Int.{w64}
use Rattle.integers.specs.Base.{Within}
use Rattle.integers.specs.Bound.{within-le}
use Rattle.integers.specs.Signed.{back, read_back}
use Rattle.correlation.proofs.Terms.{correlation_reach, reach_or_end}
use Rattle.correlation.proofs.correlate.Goals as goal

pub returns : goal.returns
returns c =
    let a = c.args in
    let k = c.reach-k.result in
    let few : k ≤ a.n = omega arith in
    let all = reach_or_end a.n k (length a.x.now - a.a) (length a.y.now - a.b) (omega arith) in
    let s = c.sum_of_products in
    record {
      value = back w64 s.type_inv (s.ensures.value ∙ correlation_reach a.x.now a.a a.y.now a.b k a.n few all);
      within = subst (Within (a.n * 2 ^ 30)) (sym (read_back w64 s.result s.type_inv)) (within-le s.ensures.within (mul-le-mul_right (2 ^ 30) few));
    }
