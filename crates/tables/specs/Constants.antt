-- The constants of document 01, for definitions; src/lib.rt has them for code, in the same order (tests/compare-tables). Units that code has as shifts, and the rows of a codebook, which code has in the length of an array, stand here alone.
use Rattle.std.specs.Prelude.{ℕ}

-- ---- sizes (document 01, "Constants")

abbrev pub lpc_order : ℕ
lpc_order = 10

abbrev pub subframes_per_frame : ℕ
subframes_per_frame = 4

abbrev pub subframe_size : ℕ
subframe_size = 60

abbrev pub frame_size : ℕ
frame_size = 240

abbrev pub exc_hist_size : ℕ
exc_hist_size = 146

abbrev pub classifier_history : ℕ
classifier_history = 120

-- ---- lags (document 01, "Constants", from G.723.1; the Rust's QSynthesis::new, pitch_postfilter, classify_erasure_voicing)

abbrev pub pitch_min : ℕ
pitch_min = 18

abbrev pub pitch_max : ℕ
pitch_max = 142

-- both lags of a fresh state
abbrev pub fresh_lag : ℕ
fresh_lag = 60

-- how far a search goes to either side of its centre
abbrev pub lag_reach : ℕ
lag_reach = 3

-- ---- LSPs (document 01, "LSPs"; the Rust's lsp_decode, lsp_extrapolate, lsp_interpolate, lsp_to_lpc_q13)

abbrev pub stability_passes : ℕ
stability_passes = 10

abbrev pub lsp_minimum : ℕ
lsp_minimum = 256

abbrev pub lsp_minimum_erased : ℕ
lsp_minimum_erased = 512

-- the predictor of an index (document 02, E1), 12/32, and that of erased frames, 23/32, in 32768ths
abbrev pub lsp_predictor : ℕ
lsp_predictor = 12288

abbrev pub lsp_predictor_erased : ℕ
lsp_predictor_erased = 23552

-- the LSPs of the three bands of an index (LSP_BAND_INFO), and the rows of each band's codebook
abbrev pub band0_size : ℕ
band0_size = 3

abbrev pub band1_size : ℕ
band1_size = 3

abbrev pub band2_size : ℕ
band2_size = 4

abbrev pub codebook_rows : ℕ
codebook_rows = 256

-- a quarter, in 32768ths
abbrev pub quarter : ℕ
quarter = 8192

-- coefficients are 8192ths, the polynomials that they are made from 2 ^ 24ths
abbrev pub lpc_one : ℕ
lpc_one = 8192

abbrev pub polynomial_one : ℕ
polynomial_one = 16777216

-- ---- excitation (document 01, "Adaptive part", "Pulses")

abbrev pub acb_taps : ℕ
acb_taps = 5

-- taps are 16384ths
abbrev pub tap_one : ℕ
tap_one = 16384

abbrev pub grid_slots : ℕ
grid_slots = 30

-- pulses of even and of odd subframes
abbrev pub pulses_even : ℕ
pulses_even = 6

abbrev pub pulses_odd : ℕ
pulses_odd = 5

-- the first code without slots, for six and for five pulses
abbrev pub position_limit_six : ℕ
position_limit_six = 593775

abbrev pub position_limit_five : ℕ
position_limit_five = 142506

-- a train needs a base lag below this
abbrev pub train_lag_limit : ℕ
train_lag_limit = 58

-- ---- postfilters (document 01, "Pitch postfilter", "Formant, tilt, gain"; the Rust's ltp_gamma_q15, formant_agc_subframe)

-- the pitch postfilter's weight by kind, in 32768ths
abbrev pub ltp_gamma_high : ℕ
ltp_gamma_high = 6144

abbrev pub ltp_gamma_low : ℕ
ltp_gamma_low = 8192

-- the factor of c² at the pitch postfilter's gate
abbrev pub pitch_gate : ℕ
pitch_gate = 4

-- parts of the old tilt, and of all parts
abbrev pub tilt_kept : ℕ
tilt_kept = 3

abbrev pub tilt_parts : ℕ
tilt_parts = 4

-- gains are 4096ths
abbrev pub agc_one : ℕ
agc_one = 4096

abbrev pub agc_max : ℕ
agc_max = 1048576

-- a sixteenth of the distance at each sample, and 17/16 at the end
abbrev pub agc_step : ℕ
agc_step = 16

abbrev pub agc_boost : ℕ
agc_boost = 17

-- ---- erasure (document 01, "Erasure"; the Rust's decode_erased, classify_erasure_voicing)

-- 3/4, in 32768ths
abbrev pub erasure_attenuation : ℕ
erasure_attenuation = 24576

abbrev pub erasure_mute_after : ℕ
erasure_mute_after = 3

-- the factor of c² at the voicing gate
abbrev pub voicing_gate : ℕ
voicing_gate = 8

-- the scale by which voicing candidates rank, 2 ^ 30
abbrev pub voicing_rank_one : ℕ
voicing_rank_one = 1073741824

abbrev pub noise_start : ℕ
noise_start = 3735928559

abbrev pub noise_step : ℕ
noise_step = 2654435769

abbrev pub noise_factor : ℕ
noise_factor = 1664525

abbrev pub noise_summand : ℕ
noise_summand = 1013904223

-- ---- bounds of the state (document 01, number 2)

abbrev pub last_lag_min : ℕ
last_lag_min = 17

abbrev pub last_lag_max : ℕ
last_lag_max = 147

abbrev pub last_base_lag_max : ℕ
last_base_lag_max = 145

abbrev pub tap_sum_max : ℕ
tap_sum_max = 32767

-- the largest gain, doubled
abbrev pub unvoiced_gain_max : ℕ
unvoiced_gain_max = 13246

-- ---- the record (document 01, "The record", numbers 4 to 9; document 02, E1)

abbrev pub kind_max : ℕ
kind_max = 4

abbrev pub record_erased_bytes : ℕ
record_erased_bytes = 1

abbrev pub record_high_bytes : ℕ
record_high_bytes = 89

abbrev pub record_low_bytes : ℕ
record_low_bytes = 549

abbrev pub record_high_index_bytes : ℕ
record_high_index_bytes = 72

abbrev pub record_low_index_bytes : ℕ
record_low_index_bytes = 532

-- the place of candidate LSPs, or of the rows of an index
abbrev pub lsps_place : ℕ
lsps_place = 1

abbrev pub band0_place : ℕ
band0_place = 1

abbrev pub band1_place : ℕ
band1_place = 2

abbrev pub band2_place : ℕ
band2_place = 3

-- the bytes of the head: the kind, and ten LSPs or an index
abbrev pub head_values_bytes : ℕ
head_values_bytes = 21

abbrev pub head_index_bytes : ℕ
head_index_bytes = 4

-- places in the fields after the head: base lag code A, the step code of subframe 1, base lag code B, the step code of subframe 3, the first block
abbrev pub lag_a_place : ℕ
lag_a_place = 0

abbrev pub step1_place : ℕ
step1_place = 1

abbrev pub lag_b_place : ℕ
lag_b_place = 2

abbrev pub step3_place : ℕ
step3_place = 3

abbrev pub blocks_place : ℕ
blocks_place = 4

abbrev pub block_high_bytes : ℕ
block_high_bytes = 16

abbrev pub block_low_bytes : ℕ
block_low_bytes = 131

-- places in a block after its taps: gain index; High: flags, signs and position code; Low: sixty values
abbrev pub gain_index_place : ℕ
gain_index_place = 10

abbrev pub flags_place : ℕ
flags_place = 11

abbrev pub signs_place : ℕ
signs_place = 12

abbrev pub code_place : ℕ
code_place = 13

abbrev pub values_place : ℕ
values_place = 11

abbrev pub lag_code_max : ℕ
lag_code_max = 127

abbrev pub step_code_max : ℕ
step_code_max = 3

-- the step code that adds 0
abbrev pub step_code_zero : ℕ
step_code_zero = 1

abbrev pub gain_index_max : ℕ
gain_index_max = 23

abbrev pub flags_max : ℕ
flags_max = 3

-- ---- program `frames`

abbrev pub line_max : ℕ
line_max = 1098

-- numbers 1 to 11, and 0 for samples
abbrev pub numbers_counted : ℕ
numbers_counted = 12
