-- The record reader refers to the record's bytes and keeps a cursor (document 01, "What changes shape"). What its functions promise, each fact once: the contracts cite these.
use Rattle.std.specs.Prelude.{◌≡◌, List, ℕ, ◌+◌, ◌-◌, ◌^◌, min}
use Rattle.std.specs.Borrow.{Bor}
use Rattle.reader.specs.declared.Reader.{Reader}

-- the place n bytes on; the greatest number of 64 bits stays, where no record has a byte
abbrev pub past : ℕ → ℕ → ℕ
past n at = min (at + n) (2 ^ 64 - 1)

-- `new`: q is a reader of these bytes with its cursor at this place
abbrev pub StandsAt : Bor (List ℕ) → ℕ → Reader → Type 0
StandsAt src at q = (q.src ≡ src) × (q.at ≡ at)

-- f finds a field of n bytes at a place of a record
module _ {A : Type 0} (f : List ℕ → ℕ → A) where
  -- `read_byte` and `read_word`: x is the field at the cursor of r; q is r with its cursor past the field
  abbrev pub ReadOn : ℕ → Reader → Reader → A → Type 0
  ReadOn n r q x = (x ≡ f r.src.now r.at) × (q.src ≡ r.src) × (q.at ≡ past n r.at)

  -- `byte_field`, `word_field` and `code_field`: x is the field at this place of these bytes
  abbrev pub FieldAt : Bor (List ℕ) → ℕ → A → Type 0
  FieldAt src at x = x ≡ f src.now at
