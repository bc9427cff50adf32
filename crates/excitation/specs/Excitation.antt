-- Excitation (document 01, "Adaptive part"; the Rust's sum in decode_params, push_excitation and record_last_frame). A frame's signal is one list of 386 samples: the excitation history of 146, then the frame's 240.
use Rattle.std.specs.Prelude.{◌≡◌, List, ◌++◌, ℕ, ◌+◌, ◌-◌, ◌*◌, ◌/◌, ◌≤◌, ℤ, pos, ◌+ℤ◌, ◌*ℤ◌, take, drop, length}
use Rattle.integers.specs.Base.{limited, sum_to, entry, tabulate}
use Rattle.tables.specs.Constants.{subframe_size, exc_hist_size, acb_taps, tap_sum_max}
use Rattle.basicop.specs.Operators.{word16}
use Rattle.pulses.specs.Pulses.{doubled_gain}
use Rattle.excitation.specs.declared.Subframe.{Subframe}
use Rattle.excitation.specs.declared.Subframe.TheVariants.{Zero, One, Two, Three}

-- ---- the signal

-- the place of a subframe's first sample
abbrev pub subframe_place : Subframe → ℕ
subframe_place Zero = exc_hist_size
subframe_place One = exc_hist_size + subframe_size
subframe_place Two = exc_hist_size + 2 * subframe_size
subframe_place Three = exc_hist_size + 3 * subframe_size

-- the history of the subframe at p: the 146 samples before it
abbrev pub history : List ℤ → ℕ → List ℤ
history x p = take exc_hist_size (drop (p - exc_hist_size) x)

-- x with the sixty samples e at p
abbrev pub with_subframe : List ℤ → ℕ → List ℤ → List ℤ
with_subframe x p e = take p x ++ (e ++ drop (p + subframe_size) x)

-- f of each subframe in turn
abbrev pub in_turn : (List ℤ → Subframe → List ℤ) → List ℤ → List ℤ
in_turn f x = f (f (f (f x Zero) One) Two) Three

-- The Rust drops the oldest sixty samples of its history and appends those of the subframe: such is the history of what follows a subframe (proofs/Histories.antt).
abbrev pub HistoryPushed : Type 0
HistoryPushed =
    (x e : List ℤ) (p : ℕ) → length e ≡ subframe_size → exc_hist_size ≤ p → p + subframe_size ≤ length x →
    history (with_subframe x p e) (p + subframe_size) ≡ drop subframe_size (history x p) ++ e

-- ---- the sum (decode_params)

-- of the adaptive part u and the fixed vector v, limited to 16 bits
unfoldable pub limited_sum : List ℤ → List ℤ → List ℤ
limited_sum u v = tabulate (λ n. word16 (entry u n +ℤ entry v n)) subframe_size

-- ---- what is stored for erased frames (decode_params, record_last_frame)

-- twice the sum of the taps: their sum in 32768ths
abbrev pub doubled_sum : List ℤ → ℤ
doubled_sum taps = sum_to (entry taps) acb_taps *ℤ pos 2

-- limited to 0 ..= 32767, as it is stored
abbrev pub tap_sum_of : List ℤ → ℤ
tap_sum_of taps = limited (pos 0) (pos tap_sum_max) (doubled_sum taps)

-- half the sum of the doubled gains of two indices
abbrev pub unvoiced_gain : ℕ → ℕ → ℕ
unvoiced_gain i j = (doubled_gain i + doubled_gain j) / 2
