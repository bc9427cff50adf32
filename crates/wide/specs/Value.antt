-- Wide pairs (document 01, "Wide pairs"): a number below 2 ^ 128 as two 64-bit words, where the Rust has an i128 that is not negative.
use Rattle.std.specs.Prelude.{ℕ, ◌+◌, ◌*◌, ◌^◌}
use Rattle.wide.specs.declared.Wide.{Wide}

-- the number that a pair stands for
abbrev pub value : Wide → ℕ
value w = w.hi * 2 ^ 64 + w.lo
