-- Lags beyond their limits, by computation.
use mathlib.Core.Path.{◌≡◌, refl}
use lib.IntN.{pos, negsuc}
use Rattle.adaptive.specs.Adaptive.{limited_lag}

pub lag_of_minus_5 : limited_lag (negsuc 4) ≡ 18
lag_of_minus_5 = refl

pub lag_of_200 : limited_lag (pos 200) ≡ 142
lag_of_200 = refl
