-- What the contracts of the search's functions say of a lag and what is kept of it.
use Rattle.std.specs.Prelude.{◌≡◌, Bool, true, false, ◌&&◌, Option, Some, None, List, ℕ, suc, ◌*◌, ◌/◌, leb, ltb, ℤ, pos, nat_abs}
use Rattle.std.specs.Int.Signed.{lt_z}
use Rattle.tables.specs.Constants.{voicing_gate, voicing_rank_one}
use Rattle.wide.specs.Value.{value}
use Rattle.voicing.specs.Voicing.{counts, rank, gated}
use Rattle.voicing.specs.declared.Ranked.{Ranked}

-- how it ranks: one that does not count is least
abbrev pub score_of : Option Ranked → ℕ
score_of None = 0
score_of (Some w) = suc (value w.rank)

-- whether a lag below 120 counts, by its sums s, e and t
abbrev pub counts_by : ℤ → ℕ → ℕ → Bool
counts_by s e t = lt_z (pos 0) s && (ltb 0 e && ltb 0 t)

-- what is kept of the lag m, which counts, is right for its sums
pub record RankedBy (s : ℤ) (e t m : ℕ) (w : Ranked) : Type 0 where
  pub counts : counts_by s e t ≡ true
  pub lag : w.lag ≡ m
  pub rank : value w.rank ≡ nat_abs s * nat_abs s * voicing_rank_one / (e * t)
  pub gated : w.gated ≡ leb (e * t) (voicing_gate * (nat_abs s * nat_abs s))

-- what is kept of the lag m, nothing where it does not count
abbrev pub WeighsBy : ℤ → ℕ → ℕ → ℕ → Option Ranked → Type 0
WeighsBy s e t m None = counts_by s e t ≡ false
WeighsBy s e t m (Some w) = RankedBy s e t m w

-- the same for the samples y
pub record IsRanked (y : List ℤ) (m : ℕ) (w : Ranked) : Type 0 where
  pub counts : counts y m ≡ true
  pub lag : w.lag ≡ m
  pub rank : value w.rank ≡ rank y m
  pub gated : w.gated ≡ gated y m

abbrev pub Weighs : List ℤ → ℕ → Option Ranked → Type 0
Weighs y m None = counts y m ≡ false
Weighs y m (Some w) = IsRanked y m w
