-- The basic operators of ITU-T G.191 on 32 bits that the decoder calls, as document 01 ("Operators") and the Rust's basicop.rs state them, in plain arithmetic: a result is the nearest number in range.
use Rattle.std.specs.Prelude.{◌^◌, ℤ, pos, ◌+ℤ◌, ◌*ℤ◌}
use Rattle.integers.specs.Base.{saturated, floor_div}

-- the nearest number of 32 bits (the Rust's sat32)
abbrev pub word32 : ℤ → ℤ
word32 z = saturated 2147483647 z

-- G.191 L_add, L_mult, L_mac
abbrev pub add32 : ℤ → ℤ → ℤ
add32 a b = word32 (a +ℤ b)

abbrev pub mult32 : ℤ → ℤ → ℤ
mult32 a b = word32 (a *ℤ b *ℤ pos 2)

abbrev pub mac32 : ℤ → ℤ → ℤ → ℤ
mac32 acc a b = add32 acc (mult32 a b)

-- ---- from 32 to 16 bits

-- G.191 extract_h: the high word
abbrev pub high16 : ℤ → ℤ
high16 a = floor_div a (2 ^ 16)

-- G.191 round: the high word after a saturating half
abbrev pub rounded16 : ℤ → ℤ
rounded16 a = high16 (add32 a (pos (2 ^ 15)))
