use Rattle.std.proofs.Common.{rules, ◌≡◌, ◌≤◌, ◌++◌, ◌-◌, ◌∙◌, sym, ap, length, take, ltb, ◌||◌, min, arith}
use Rattle.lines.proofs.Kept.{append_is, take-min}
use Rattle.lines.proofs.append.Goals as goal

pub returns : goal.returns
returns c =
    let l = c.args.line.now in
    let part = c.args.part.now in
    let cs = l.text.items in
    let few : length cs ≤ 1098 = omega (arith, c.remaining_capacity-room.ensures) in
    let room : 1098 - length cs ≡ c.remaining_capacity-room.result = omega (arith, c.remaining_capacity-room.ensures) in
    let kept : c.min-kept.result ≡ min (length part) (1098 - length cs) = c.min-kept.ensures ∙ ap (min (length part)) (sym room) in
    let text : c.try_extend_from_slice-fits.new.self.items ≡ cs ++ take c.min-kept.result part = search rules in
    sym (append_is l part few
    ∙ (λ i. record {
      text = record { items = (ap (λ xs. cs ++ xs) (sym (take-min (1098 - length cs) c.min-kept.result part kept)) ∙ sym text) i };
      over = l.over || ltb (room i) (length part);
    }))
