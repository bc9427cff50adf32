use Rattle.std.proofs.Common.{ℤ, pos, negsuc, SFits, ◌∙◌, to_z-of_z}
use Rattle.std.specs.Int.{w32, w64}
use Rattle.integers.specs.Bound.{within-sub, within-fits, fits-within}
use Rattle.integers.specs.Signed.{widen}
use Rattle.integers.specs.Linear.{line, line-fits, fits-between}
use Rattle.integers.specs.Expression.{is-result, is-cast, is-shr, is-sub, is-add, need_cast}
use Rattle.postfilter.specs.Postfilter.{towards}
use Rattle.postfilter.proofs.Bounds.{towards-between}
use Rattle.postfilter.proofs.moved_gain.Goals as goal

towards-fits : (t g : ℤ) → SFits w32 t → SFits w32 g → SFits w32 (towards t g)
towards-fits t g f h =
    let u = line-fits t f in
    let v = line-fits g h in
    let b = towards-between t g (negsuc 2147483647) (pos 2147483647) (omega line) (omega line) (omega line) (omega line) in
    fits-between 2147483647 (towards t g) b.0 b.1 tt

pub overflow_cast-result : goal.overflow_cast-result
overflow_cast-result c =
    let moved = towards-fits c.args.t c.args.g c.ranges.t c.ranges.g in
    let distance = fits-within (within-sub (within-fits c.ranges.t) (within-fits c.ranges.g)) tt in
    let t = is-result w64 c.from.result c.from.type_inv (c.from.ensures ∙ to_z-of_z c.ranges.t) in
    let g = is-result w64 c.from-2.result c.from-2.type_inv (c.from-2.ensures ∙ to_z-of_z c.ranges.g) in
    let from = is-result w64 c.from-3.result c.from-3.type_inv (c.from-3.ensures ∙ to_z-of_z c.ranges.g) in
    need_cast (is-add from (is-shr 16 (is-sub t g distance) distance) (widen moved tt)) moved

pub returns : goal.returns
returns c =
    let moved = towards-fits c.args.t c.args.g c.ranges.t c.ranges.g in
    let distance = fits-within (within-sub (within-fits c.ranges.t) (within-fits c.ranges.g)) tt in
    let t = is-result w64 c.from.result c.from.type_inv (c.from.ensures ∙ to_z-of_z c.ranges.t) in
    let g = is-result w64 c.from-2.result c.from-2.type_inv (c.from-2.ensures ∙ to_z-of_z c.ranges.g) in
    let from = is-result w64 c.from-3.result c.from-3.type_inv (c.from-3.ensures ∙ to_z-of_z c.ranges.g) in
    (is-cast (is-add from (is-shr 16 (is-sub t g distance) distance) (widen moved tt)) moved).is
