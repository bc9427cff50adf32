use Rattle.std.proofs.Common.{rules, ◌≡◌, ◌++◌, [], ◌∷◌, ◌+◌, ◌/◌, ◌%◌, List, ℕ, take, ap, ◌∙◌, arith}
use Rattle.counts.proofs.Decimal.{line_parts}
use Rattle.counts.proofs.close_number.Goals as goal

pub returns-clause-items : goal.returns-clause-items
returns-clause-items c =
    let a = c.args in
    let l = a.text.now.items in
    let k = c.decimal-k.result in
    let ds = take k c.decimal-k.new.out in
    let named : c.try_extend_from_slice-fits.new.self.items ≡ l ++ 78 ∷ (48 + a.n / 10) ∷ (48 + a.n % 10) ∷ 32 ∷ [] = search rules in
    let counted : c.try_extend_from_slice-fits-2.new.self.items ≡ c.try_extend_from_slice-fits.new.self.items ++ ds = search rules in
    let ended : c.try_push-fits.new.self.items ≡ c.try_extend_from_slice-fits-2.new.self.items ++ 10 ∷ [] = search rules in
    ended
    ∙ ap (λ (t : List ℕ). t ++ 10 ∷ []) (counted ∙ ap (λ (t : List ℕ). t ++ ds) named)
    ∙ line_parts l ds a.n a.count k (omega arith) c.ranges.count.fits c.decimal-k.ensures.len c.decimal-k.ensures.digits
