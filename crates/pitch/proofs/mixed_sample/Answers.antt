use Rattle.std.proofs.Common.{◌≡◌, ℕ, ◌*◌, ◌≤◌, ℤ, pos, ◌+ℤ◌, ◌*ℤ◌, arith, rules, w16, w32, SFits, to_z, of_z, lit≤}
use Rattle.std.proofs.Math.Facts.{to_z_pos}
use Rattle.std.specs.Int.Signed.{shr_z}
use Rattle.integers.specs.Base.{Is, Within}
use Rattle.integers.specs.Bound.{within-add, within-mul, within-shr-by, within-fits, fits-within}
use Rattle.integers.specs.Expression.{is-add, is_mul, is-shr, within-is}
use Rattle.integers.specs.Signed.{back}
use Rattle.pitch.specs.Pitch.{mixed_sample}
use Rattle.pitch.proofs.mixed_sample.Goals as goal

-- a and b are s and y in 32 bits
abbrev code : ℕ → ℤ → ℤ → ℤ
code w a b = to_z w32 (of_z w32 (to_z w32 (of_z w32 a) +ℤ to_z w32 (of_z w32 (shr_z (to_z w32 (of_z w32 (to_z w32 w *ℤ to_z w32 (of_z w32 b)))) 32768))))

computes : (w : ℕ) (s y a b : ℤ) → w ≤ 8192 → SFits w16 s → SFits w16 y → Is w32 (of_z w32 a) s → Is w32 (of_z w32 b) y → (code w a b ≡ mixed_sample w s y) × Within 40960 (code w a b)
computes w s y a b h fs fy is-s is_y =
    let is-w : Is w32 w (pos w) = record { is = to_z_pos w32 (omega arith) } in
    let weight : Within 8192 (pos w) = record { within = h } in
    let product : Within (8192 * 32768) (pos w *ℤ y) = within-mul {x = pos w} weight (within-fits fy) in
    let sum : Within 40960 (mixed_sample w s y) = within-add (within-fits fs) (within-shr-by 8192 32768 (lit≤ tt) product) in
    let p : SFits w32 (pos w *ℤ y) = fits-within product tt in
    let r : Is w32 _ (mixed_sample w s y) = is-add is-s (is-shr 32768 (is_mul is-w is_y p) p) (fits-within sum tt) in
    (r.is, within-is r sum)

pub returns-clause-value : goal.returns-clause-value
returns-clause-value c =
    let s : c.from.result ≡ c.args.s = search rules in
    let y : c.from-2.result ≡ c.args.y = search rules in
    (computes c.args.w c.args.s c.args.y c.from.result c.from-2.result c.requires c.ranges.s c.ranges.y (record { is = back w32 c.from.type_inv s }) (record { is = back w32 c.from-2.type_inv y })).0

pub returns-clause-within : goal.returns-clause-within
returns-clause-within c =
    let s : c.from.result ≡ c.args.s = search rules in
    let y : c.from-2.result ≡ c.args.y = search rules in
    (computes c.args.w c.args.s c.args.y c.from.result c.from-2.result c.requires c.ranges.s c.ranges.y (record { is = back w32 c.from.type_inv s }) (record { is = back w32 c.from-2.type_inv y })).1
