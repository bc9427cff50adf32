-- The excitation of an erased frame (document 01, "Erasure"; the Rust's decode_erased; §3.10.2 of G.723.1). The signal is that of crate excitation.
use Rattle.std.specs.Prelude.{Option, Some, None, List, ℕ, ◌+◌, ◌-◌, ◌%◌, ℤ, pos}
use Rattle.integers.specs.Base.{entry, tabulate}
use Rattle.tables.specs.Constants.{subframe_size, exc_hist_size}
use Rattle.basicop.specs.Operators.{mult16}
use Rattle.excitation.specs.Excitation.{subframe_place, with_subframe, in_turn}
use Rattle.excitation.specs.declared.Subframe.{Subframe}
use Rattle.adaptive.specs.Adaptive.{limited_lag}
use Rattle.noise.specs.Noise.{attenuated, start_word, word_after, noise_subframe}

-- ---- a subframe

-- voiced: the last l samples before p, again and again, times a gain in 32768ths
unfoldable pub replayed : List ℤ → ℕ → ℕ → ℤ → List ℤ
replayed x p l gain = tabulate (λ n. mult16 (entry x (p - l + n % l)) gain) subframe_size

-- ---- the frame, from a signal x whose first 146 samples are its history

-- x with a subframe of noise, w the word at the start of the frame: it goes on from subframe to subframe
abbrev pub noise_to : ℤ → ℕ → List ℤ → Subframe → List ℤ
noise_to gain w x s = with_subframe x (subframe_place s) (noise_subframe gain (word_after w (subframe_place s - exc_hist_size)))

-- x with a subframe of replay, which reads what the one before it pushed
abbrev pub replay_to : ℕ → ℤ → List ℤ → Subframe → List ℤ
replay_to l gain x s = with_subframe x (subframe_place s) (replayed x (subframe_place s) l gain)

-- all four, from the lag of a voiced frame, the stored tap sum and unvoiced gain, and the run with this frame
unfoldable pub erased_excitation : Option ℕ → ℤ → ℤ → ℕ → List ℤ → List ℤ
erased_excitation None tap_sum gain run x = in_turn (noise_to (attenuated gain run) (start_word run)) x
erased_excitation (Some lag) tap_sum gain run x = in_turn (replay_to (limited_lag (pos lag)) (attenuated tap_sum run)) x
