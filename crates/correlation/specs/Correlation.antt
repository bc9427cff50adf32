-- Sums of products of two signals (the Rust's sums in pitch_postfilter, formant_agc_subframe and classify_erasure_voicing).
use Rattle.std.specs.Prelude.{List, ℕ, ◌+◌, ℤ, ◌*ℤ◌}
use Rattle.integers.specs.Base.{sum_to, entry}

-- of n samples of x from the place a and as many of y from b; past the end of a signal its samples are 0
unfoldable pub correlation : List ℤ → ℕ → List ℤ → ℕ → ℕ → ℤ
correlation x a y b n = sum_to (λ i. entry x (a + i) *ℤ entry y (b + i)) n

-- of n samples of x from a with themselves
abbrev pub energy : List ℤ → ℕ → ℕ → ℤ
energy x a n = correlation x a x a n
