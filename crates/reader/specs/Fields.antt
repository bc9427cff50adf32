-- The fields of a record by their width (document 01, "The record"): big-endian, 16-bit values in two's complement. r is the record's bytes; past its end they read as 0.
use Rattle.std.specs.Prelude.{cond, List, ℕ, ◌+◌, ◌*◌, ltb, ℤ, pos, ◌-ℤ◌, get_or}

-- the byte at place i
abbrev pub byte : List ℕ → ℕ → ℕ
byte r i = get_or r i 0

-- sixteen bits as two's complement
abbrev pub twos_complement : ℕ → ℤ
twos_complement n = cond (ltb n 32768) (pos n) (pos n -ℤ pos 65536)

-- the 16-bit value that starts at place i
abbrev pub word : List ℕ → ℕ → ℤ
word r i = twos_complement (byte r i * 256 + byte r (i + 1))

-- the 24-bit position code that starts at place i
abbrev pub code : List ℕ → ℕ → ℕ
code r i = byte r i * 65536 + byte r (i + 1) * 256 + byte r (i + 2)
