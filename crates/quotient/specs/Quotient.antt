-- The quotient of two wide pairs (document 01, "Wide pairs"), where the Rust divides an i128.
use Rattle.std.specs.Prelude.{◌≡◌, ℕ, ◌/◌}
use Rattle.std.proofs.Math.Nat.{div-zero}

-- the quotient's answer for the divisor 0, which `value n / value d` has too
pub quotient_by-zero : (n : ℕ) → n / 0 ≡ 0
quotient_by-zero n = div-zero n
