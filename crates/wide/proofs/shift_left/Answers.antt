-- A law for each range of the count.
use Rattle.std.proofs.Common.{ℕ, ◌-◌, ◌*◌, ◌%◌, ◌^◌, ap, ◌∙◌, arith, pow_pos, rules}
use Rattle.wide.specs.Value.{value}
use Rattle.wide.proofs.Shifts.{power-split, crossing_fits, shifted, by_digit, by_modulus}
use Rattle.wide.proofs.shift_left.Goals as goal

pub overflow_add-result : goal.overflow_add-result
overflow_add-result c =
    let n = c.args.n in
    record { fits = crossing_fits (2 ^ 64) (2 ^ n) (2 ^ (64 - n)) (power-split n 64 (omega arith)) (pow_pos n) (pow_pos (64 - n)) c.args.a.hi _ (search rules) }

pub returns-in-1-to-63 : goal.returns-in-1-to-63
returns-in-1-to-63 c =
    let n = c.args.n in
    shifted (2 ^ 64) (2 ^ n) (2 ^ (64 - n)) (power-split n 64 (omega arith)) (pow_pos n) (pow_pos (64 - n)) c.args.a.hi c.args.a.lo (search rules)

pub returns-in-64-to-127 : goal.returns-in-64-to-127
returns-in-64-to-127 c =
    let n = c.args.n in
    by_digit (2 ^ 64) (2 ^ (n - 64)) c.args.a.hi c.args.a.lo (pow_pos 64) ∙ ap (λ (x : ℕ). value c.args.a * x % 2 ^ 128) (power-split 64 n (omega arith))

pub returns-in_default : goal.returns-in_default
returns-in_default c =
    let n = c.args.n in
    by_modulus (2 ^ 128) (2 ^ (n - 128)) (value c.args.a) ∙ ap (λ (x : ℕ). value c.args.a * x % 2 ^ 128) (power-split 128 n (omega arith))
