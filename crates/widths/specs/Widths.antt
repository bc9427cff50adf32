-- What a frame works on, in 16 bits, and what it leaves for the state, which has 32 (document 01, "Adaptive part" and "Synthesis").
use Rattle.std.specs.Prelude.{List, ℕ, ◌+◌, ℤ}
use Rattle.integers.specs.Base.{entry, tabulate}
use Rattle.tables.specs.Constants.{frame_size, exc_hist_size}
use Rattle.basicop.specs.Operators.{word16}

-- the signal of a frame before its excitation: the history, then 240 zeros
abbrev pub frame_signal : List ℤ → List ℤ
frame_signal history = tabulate (entry history) (exc_hist_size + frame_size)

-- the history after it: the last 146 samples
abbrev pub history_after : List ℤ → List ℤ
history_after x = tabulate (λ i. entry x (frame_size + i)) exc_hist_size

-- n values brought to 16 bits, which changes none of a state in bounds
abbrev pub narrowed : List ℤ → ℕ → List ℤ
narrowed xs n = tabulate (λ i. word16 (entry xs i)) n
