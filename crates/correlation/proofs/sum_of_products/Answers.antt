use Rattle.std.proofs.Common.{◌≡◌, ℕ, ◌+◌, ◌*◌, ◌^◌, ◌<◌, ℤ, pos, ◌+ℤ◌, ◌*ℤ◌, SFits, rules, arith, sym, ap, ◌∙◌, subst, to_z, of_z, to_z-of_z}
use Rattle.std.specs.Int.{w16, w32, w64}
use Rattle.std.specs.Int.Signed.{mag}
use lib.Dec.{T, ltb}
use Rattle.integers.specs.Base.{sum_to, entry, Within}
use Rattle.integers.specs.Bound.{within-mul, within-mag, fits-within}
use Rattle.integers.specs.Signed.{read_back, back}
use Rattle.integers.specs.Sum.{sum_step}
use Rattle.correlation.proofs.Parts.{high, low, high-within, low-within, parts_sum}
use Rattle.correlation.proofs.Terms.{term, correlation-is, Summed, summed-start, summed-none, summed-next, summed-fits}
use Rattle.correlation.proofs.sum_of_products.Goals as goal

-- a product of two samples and the bounds of its parts, as the code has it
multiplied : (x y : ℤ) {p : ℤ} → mag p < 2 ^ 31 → p ≡ to_z w16 (of_z w16 x) *ℤ to_z w16 (of_z w16 y) → mag x < 2 ^ 15 → mag y < 2 ^ 15 →
    (to_z w32 (of_z w32 p) ≡ x *ℤ y) × Within (2 ^ 30) (x *ℤ y) × Within (2 ^ 15) (high (x *ℤ y)) × Within (2 ^ 16) (low (x *ℤ y))
multiplied x y h e f g =
    let small = within-mul (within-mag w16 x f) (within-mag w16 y g) in
    (back w32 h (e ∙ (λ i. read_back w16 x f i *ℤ read_back w16 y g i)), small, high-within (x *ℤ y) (fits-within small tt), low-within (x *ℤ y))

-- a sum with one number more, a call's answer r, as the code has it
added : {B : ℕ} {f : ℕ → ℤ} {acc r : ℤ} {n : ℕ} → Summed B f acc n → Within B (f n) → mag r < 2 ^ 31 → r ≡ f n → n < 255 → T (ltb (255 * B) (2 ^ 31)) →
    let z = acc +ℤ to_z w32 (of_z w32 r) in SFits w32 z × Summed B f (to_z w32 (of_z w32 z)) (n + 1)
added {B} {f} {acc} {r} {n} s small h e k t =
    let is = ap (λ (z : ℤ). acc +ℤ z) (back w32 h e) in
    let fits = subst (SFits w32) (sym is) (summed-fits s small 255 k t) in
    (fits, subst (λ (z : ℤ). Summed B f z (n + 1)) (sym (to_z-of_z fits ∙ is)) (summed-next s small))

pub loop-i-init : goal.loop-i-init
loop-i-init c = (summed-start _ _, summed-start _ _, summed-none _ _)

pub overflow_add-high : goal.overflow_add-high
overflow_add-high c =
    let a = c.args in
    let i = c.loop-i.i in
    let p = multiplied (entry a.x.now (a.a + i)) (entry a.y.now (a.b + i)) c.product-p.type_inv c.product-p.ensures (search rules) (search rules) in
    (added c.loop-i.invariant.0 p.2 c.high_part-high.type_inv (c.high_part-high.ensures ∙ ap high p.0) (omega arith) tt).0

pub overflow_add-low : goal.overflow_add-low
overflow_add-low c =
    let a = c.args in
    let i = c.loop-i.i in
    let p = multiplied (entry a.x.now (a.a + i)) (entry a.y.now (a.b + i)) c.product-p.type_inv c.product-p.ensures (search rules) (search rules) in
    (added c.loop-i.invariant.1 p.3 c.low_part-low.type_inv (c.low_part-low.ensures ∙ ap low p.0) (omega arith) tt).0

pub loop-i-preserved : goal.loop-i-preserved
loop-i-preserved c =
    let a = c.args in
    let i = c.loop-i.i in
    let f : ℕ → ℤ = term a.x.now a.a a.y.now a.b in
    let p = multiplied (entry a.x.now (a.a + i)) (entry a.y.now (a.b + i)) c.product-p.type_inv c.product-p.ensures (search rules) (search rules) in (
      (added c.loop-i.invariant.0 p.2 c.high_part-high.type_inv (c.high_part-high.ensures ∙ ap high p.0) (omega arith) tt).1,
      (added c.loop-i.invariant.1 p.3 c.low_part-low.type_inv (c.low_part-low.ensures ∙ ap low p.0) (omega arith) tt).1,
      subst (λ (z : ℤ). Summed (2 ^ 30) f z (i + 1)) (sym (sum_step f i)) (summed-next c.loop-i.invariant.2 p.1),
    )

pub returns : goal.returns
returns c =
    let a = c.args in
    let f : ℕ → ℤ = term a.x.now a.a a.y.now a.b in
    let i = c.loop-i.i in
    let all : i ≡ a.n = omega arith in
    let r = to_z w64 (of_z w64 c.joined.result) in
    let sums : c.joined.result ≡ sum_to f i =
    c.joined.ensures ∙ (λ k. c.loop-i.invariant.0.is k *ℤ pos 65536 +ℤ c.loop-i.invariant.1.is k) ∙ parts_sum f i in
    let is : r ≡ sum_to f i = back w64 c.joined.type_inv sums in
    record {
      value = is ∙ ap (sum_to f) all ∙ sym (correlation-is a.x.now a.a a.y.now a.b a.n);
      within = subst (λ (n : ℕ). Within (n * 2 ^ 30) r) all (subst (Within (i * 2 ^ 30)) (sym is) c.loop-i.invariant.2.small);
    }
