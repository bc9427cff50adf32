use Rattle.std.specs.Prelude.{◌≡◌, ℕ, ◌+◌, ◌/◌, ◌%◌, ℤ, pos}
use Rattle.std.specs.Int.{w16}
use Rattle.std.proofs.Common.{ap, ◌∙◌, arith, rules, to_z, of_z}
use mir.Facts.{to_z_pos}
use Rattle.integers.specs.Base.{entry, up}
use Rattle.integers.specs.Signed.{back}
use Rattle.basicop.specs.Operators.{add16, sub16, mult16, shl16}
use Rattle.lpc.proofs.Cosines.{cosine-operators}
use Rattle.lpc.proofs.cos_q14.Goals as goal

pub returns : goal.returns
returns c =
    let f = c.args.freq in
    let t = c.lsp_cosines-table.result.now in
    let place : c.table_place-place.result ≡ up f = search rules in
    let b : to_z w16 (of_z w16 (entry t (c.table_place-place.result / 128))) ≡ entry t (c.table_place-place.result / 128) = search rules in
    let n : to_z w16 (of_z w16 (entry t (c.table_place-place.result / 128 + 1))) ≡ entry t (c.table_place-place.result / 128 + 1) = search rules in
    let base = b ∙ (λ i. entry (c.lsp_cosines-table.ensures i) (place i / 128)) in
    let next = n ∙ (λ i. entry (c.lsp_cosines-table.ensures i) (place i / 128 + 1)) in
    let d = back w16 c.sub.type_inv (c.sub.ensures ∙ (λ i. sub16 (next i) (base i))) in
    let s = back w16 c.shl.type_inv (c.shl.ensures ∙ ap (λ (z : ℤ). shl16 z (pos 8)) (to_z_pos w16 (omega arith) ∙ ap (λ (k : ℕ). pos (k % 128)) place)) in
    let m = back w16 c.mult.type_inv (c.mult.ensures ∙ (λ i. mult16 (d i) (s i))) in
    back w16 c.add.type_inv (c.add.ensures ∙ (λ i. add16 (base i) (m i)) ∙ cosine-operators f c.ranges.freq)
