-- What the run of erased frames decides (document 01, "Erasure"; the Rust's decode_erased; §3.10.2 of G.723.1): how much is attenuated, and the noise.
use Rattle.std.specs.Prelude.{ℕ, zero, suc, ◌+◌, ◌-◌, ◌*◌, ◌/◌, ◌%◌, ◌^◌, min, List, ℤ, pos, ◌-ℤ◌, ◌*ℤ◌}
use Rattle.integers.specs.Base.{floor_div, tabulate}
use Rattle.tables.specs.Constants.{subframe_size, noise_start, noise_step, noise_factor, noise_summand}
use Rattle.basicop.specs.Operators.{mult16}

-- ---- the run and its attenuation

-- erased frames in a row, and one more: it stays at 2 ^ 32 - 1
abbrev pub next_run : ℕ → ℕ
next_run run = min (run + 1) (2 ^ 32 - 1)

-- of the frame that is the run-th in a row, in 32768ths; before the first nothing is attenuated (proofs/Attenuation.antt: each is 3/4 of the one before, until mute)
abbrev pub attenuation : ℕ → ℕ
attenuation zero = 32768
attenuation (suc zero) = 24576
attenuation (suc (suc zero)) = 18432
attenuation (suc (suc (suc zero))) = 13824
attenuation (suc (suc (suc (suc n)))) = 0

-- a gain so attenuated
abbrev pub attenuated : ℤ → ℕ → ℤ
attenuated gain run = floor_div (gain *ℤ pos (attenuation run)) 32768

-- ---- noise

-- the word at the start of a frame
abbrev pub start_word : ℕ → ℕ
start_word run = (noise_start + run * noise_step) % 2 ^ 32

-- multiplied and added modulo 2 ^ 32
abbrev pub next_word_of : ℕ → ℕ
next_word_of w = (w * noise_factor + noise_summand) % 2 ^ 32

-- the word n samples on
unfoldable pub word_after : ℕ → ℕ → ℕ
word_after w zero = w
word_after w (suc n) = next_word_of (word_after w n)

-- its 16 bits from bit 8 on, less 32768
abbrev pub noise : ℕ → ℤ
noise w = pos (w / 256 % 65536) -ℤ pos 32768

-- a subframe: noise times a gain in 32768ths; w is the word before it
unfoldable pub noise_subframe : ℤ → ℕ → List ℤ
noise_subframe gain w = tabulate (λ n. mult16 gain (noise (word_after w (n + 1)))) subframe_size
