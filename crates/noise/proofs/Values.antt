-- Values at the limits of document 01's numbers, by computation.
use Rattle.std.proofs.Common.{◌≡◌, ◌-◌, ◌^◌, refl}
use Rattle.noise.specs.Noise.{next_run, start_word}

-- the run stays at its largest
pub run_after-most : next_run (2 ^ 32 - 1) ≡ 2 ^ 32 - 1
run_after-most = refl

-- 0x7CE538A8
pub start_of_1 : start_word 1 ≡ 2095397032
start_of_1 = refl
