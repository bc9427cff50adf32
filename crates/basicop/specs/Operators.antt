-- The basic operators of ITU-T G.191 on 16 bits that the decoder calls, as document 01 ("Operators") and the Rust's basicop.rs state them, in plain arithmetic: a result is the nearest number in range.
use Rattle.std.specs.Prelude.{suc, ◌^◌, ℤ, pos, negsuc, neg_ℤ, ◌+ℤ◌, ◌-ℤ◌, ◌*ℤ◌}
use Rattle.integers.specs.Base.{saturated, floor_div}

-- the nearest number of 16 bits (saturate)
abbrev pub word16 : ℤ → ℤ
word16 z = saturated 32767 z

-- G.191 add, sub
abbrev pub add16 : ℤ → ℤ → ℤ
add16 a b = word16 (a +ℤ b)

abbrev pub sub16 : ℤ → ℤ → ℤ
sub16 a b = word16 (a -ℤ b)

-- G.191 mult: the floor of the product over 2 ^ 15
abbrev pub mult16 : ℤ → ℤ → ℤ
mult16 a b = word16 (floor_div (a *ℤ b) (2 ^ 15))

-- a times 2 ^ n; for a negative n the floor of the quotient
abbrev pub scaled : ℤ → ℤ → ℤ
scaled a (pos n) = a *ℤ pos (2 ^ n)
scaled a (negsuc n) = floor_div a (2 ^ suc n)

-- G.191 shl, shr
abbrev pub shl16 : ℤ → ℤ → ℤ
shl16 a n = word16 (scaled a n)

abbrev pub shr16 : ℤ → ℤ → ℤ
shr16 a n = word16 (scaled a (neg_ℤ n))
