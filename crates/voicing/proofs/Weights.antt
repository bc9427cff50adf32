-- What is kept of a lag, from its sums.
use Rattle.std.specs.Prelude.{◌≡◌, Bool, false, ◌&&◌, Option, Some, None, List, ℕ, ◌*◌, ◌/◌, ◌≤◌, ◌<◌, ltb, leb, ℤ, pos, nat_abs}
use Rattle.std.proofs.Common.{sym, ap, ◌∙◌, lt-ltb, le-ltb}
use mathlib.Core.Bool.{and-false}
use Rattle.std.specs.Int.Signed.{lt_z}
use Rattle.tables.specs.Constants.{voicing_gate, voicing_rank_one}
use Rattle.voicing.specs.Voicing.{lag_correlation, earlier_energy, later_energy, counts}
use Rattle.voicing.specs.Search.{counts_by, WeighsBy, Weighs}
use Rattle.voicing.specs.declared.Ranked.{Ranked}

-- ---- of one that does not count, with a sum that is not above 0

module _ (s : ℤ) (e t m : ℕ) where
  abbrev alike : Bool
  alike = lt_z (pos 0) s

  pub sums_unlike : alike ≡ false → WeighsBy s e t m None
  sums_unlike k = ap (λ (b : Bool). b && (ltb 0 e && ltb 0 t)) k

  pub sums_silent_earlier : e ≡ 0 → WeighsBy s e t m None
  sums_silent_earlier k = ap (λ (n : ℕ). alike && (ltb 0 n && ltb 0 t)) k ∙ and-false alike

  pub sums_silent_later : t ≡ 0 → WeighsBy s e t m None
  sums_silent_later k =
      let silent = ap (λ (n : ℕ). ltb 0 e && ltb 0 n) k ∙ and-false (ltb 0 e) in
      ap (λ (b : Bool). alike && b) silent ∙ and-false alike

-- ---- of the lag m

module _ (y : List ℤ) (m : ℕ) where
  abbrev above : Bool
  above = lt_z (pos 0) (lag_correlation y m) && (lt_z (pos 0) (earlier_energy y m) && lt_z (pos 0) (later_energy y m))

  pub counts_far : 120 ≤ m → counts y m ≡ false
  unfolding counts
  counts_far h = ap (λ (t : Bool). t && above) (le-ltb m 120 h)

  pub weighs_far : 120 ≤ m → Weighs y m None
  weighs_far h = counts_far h

  -- with the sums s, e and t
  module _ {s : ℤ} {e t : ℕ} (p : s ≡ lag_correlation y m) (q : pos e ≡ earlier_energy y m) (r : pos t ≡ later_energy y m) where
    counts_near : m < 120 → counts_by s e t ≡ counts y m
    unfolding counts
    counts_near h = λ i. sym (lt-ltb m 120 h) i && (lt_z (pos 0) (p i) && (lt_z (pos 0) (q i) && lt_z (pos 0) (r i)))

    pub weighs_near : m < 120 → (w : Option Ranked) → WeighsBy s e t m w → Weighs y m w
    weighs_near h None k = sym (counts_near h) ∙ k
    weighs_near h (Some w) k = record {
      counts = sym (counts_near h) ∙ k.counts;
      lag = k.lag;
      rank = k.rank ∙ (λ i. nat_abs (p i) * nat_abs (p i) * voicing_rank_one / (nat_abs (q i) * nat_abs (r i)));
      gated = k.gated ∙ (λ i. leb (nat_abs (q i) * nat_abs (r i)) (voicing_gate * (nat_abs (p i) * nat_abs (p i))));
    }
