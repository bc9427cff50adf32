use Rattle.std.proofs.Common.{rules, ◌≡◌, ℕ, ◌+◌, length, pos, sym, ap, ◌∙◌}
use Rattle.integers.specs.Base.{entry}
use Rattle.integers.specs.Fill.{entries_all, tabulate_ext}
use Rattle.record.specs.Record.{words}
use Rattle.record.proofs.fixed_values.Goals as goal

-- each value is widened
pub returns : goal.returns
returns c =
    let m = c.map.ensures.items in
    let xs = c.words_at.result in
    let long : length xs ≡ 60 = search rules in
    sym (entries_all (pos 0) c.map.result 60 m.long)
    ∙ tabulate_ext (entry c.map.result) (entry xs) 60 (λ i lt. let w = m.at i (pos 0) (pos 0) lt in search rules)
    ∙ entries_all (pos 0) xs 60 long
    ∙ c.words_at.ensures
    ∙ ap (λ (n : ℕ). words c.args.fields.now (n + 11) 60) c.block_place-at.ensures.place
