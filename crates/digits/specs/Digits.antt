-- Hexadecimal text (document 01, "Program `frames`"): digit pairs of either letter case in, four uppercase digits for a sample out.
use Rattle.std.specs.Prelude.{Bool, true, false, cond, ◌&&◌, ◌||◌, List, [], ◌∷◌, ◌++◌, ℕ, zero, suc, ◌+◌, ◌-◌, ◌*◌, ◌/◌, ◌%◌, ◌^◌, leb, eqb, ltb, ℤ, pos, ◌+ℤ◌, length, get_or, Result, Ok, Err}
use Rattle.integers.specs.Base.{up, entry, tabulate}
use Rattle.tables.specs.Constants.{frame_size, line_max}
use Rattle.array_bytes.specs.ArrayBytes.{ArrayBytes}

-- ---- in

-- b is a character of lo ..= hi
abbrev pub among : ℕ → ℕ → ℕ → Bool
among lo hi b = leb lo b && leb b hi

-- 0 to 9, A to F or a to f
unfoldable pub is_digit : ℕ → Bool
is_digit b = among 48 57 b || (among 65 70 b || among 97 102 b)

-- the value of a digit, 0 for any other character
unfoldable pub digit_value : ℕ → ℕ
digit_value b = cond (among 48 57 b) (b - 48) (cond (among 65 70 b) (b - 55) (cond (among 97 102 b) (b - 87) 0))

-- both in one number: the value, 16 where there is none
abbrev pub digit_code : ℕ → ℕ
digit_code b = cond (is_digit b) (digit_value b) 16

-- the first n characters are digits
unfoldable pub are_digits : List ℕ → ℕ → Bool
are_digits text zero = true
are_digits text (suc n) = are_digits text n && is_digit (get_or text n 0)

-- the text is digit pairs
abbrev pub has_pairs : List ℕ → Bool
has_pairs text = eqb (length text % 2) 0 && are_digits text (length text)

-- the byte of pair i
abbrev pub pair_value : List ℕ → ℕ → ℕ
pair_value text i = 16 * digit_value (get_or text (2 * i) 0) + digit_value (get_or text (2 * i + 1) 0)

-- the bytes of all pairs
abbrev pub bytes_of : List ℕ → List ℕ
bytes_of text = tabulate (pair_value text) (length text / 2)

-- those of a text that is digit pairs or is none
abbrev pub read_as : Bool → List ℕ → Result ArrayBytes ArrayBytes
read_as are_pairs bytes = cond are_pairs (Ok (record { items = bytes })) (Err (record { items = bytes }))

-- what `digit_pairs` answers: a text of more than 1,098 characters is not read
unfoldable pub pairs_of : List ℕ → Result ArrayBytes ArrayBytes
pairs_of text = cond (leb (length text) line_max) (read_as (has_pairs text) (bytes_of text)) (read_as false [])

-- ---- out

-- sixteen bits in two's complement: z modulo 2^16
abbrev pub image : ℤ → ℕ
image z = up (z +ℤ pos 65536) % 65536

-- the character of a digit below 16: `0` to `9`, then `A` to `F`
abbrev pub glyph : ℕ → ℕ
glyph d = cond (ltb d 10) (48 + d) (55 + d)

-- its four digits, the highest first
unfoldable pub sample_digits : ℤ → List ℕ
sample_digits z = glyph (image z / 4096 % 16) ∷ glyph (image z / 256 % 16) ∷ glyph (image z / 16 % 16) ∷ glyph (image z % 16) ∷ []

-- character k of the text of samples: digit k % 4 of sample k / 4, the highest first
abbrev pub digit_at : List ℤ → ℕ → ℕ
digit_at xs k = glyph (image (entry xs (k / 4)) / 16 ^ (3 - k % 4) % 16)

-- four characters a sample, and a newline
abbrev pub sample_line_bytes : ℕ
sample_line_bytes = 4 * frame_size + 1

-- 240 samples as 960 characters and a newline
unfoldable pub sample_line : List ℤ → List ℕ
sample_line xs = tabulate (digit_at xs) (4 * frame_size) ++ (10 ∷ [])
