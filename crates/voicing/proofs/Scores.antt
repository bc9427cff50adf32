-- How lags rank.
use Rattle.std.specs.Prelude.{◌≡◌, Bool, true, false, cond, Option, Some, None, List, ℕ, suc, ltb, ℤ}
use Rattle.std.proofs.Common.{sym, ap, ◌∙◌, lt-ltb, le-ltb, arith}
use lib.Dec.{leb-suc-suc}
use Rattle.wide.specs.Value.{value}
use Rattle.voicing.specs.Voicing.{counts, rank, score}
use Rattle.voicing.specs.Search.{score_of, Weighs}
use Rattle.voicing.specs.declared.Ranked.{Ranked}

-- ---- the higher of two, in its cases

module _ (a b : Option Ranked) where
  abbrev below : Bool
  below = ltb (score_of a) (score_of b)

  higher_is : (t : Bool) → below ≡ t → cond t b a ≡ cond below b a
  higher_is t e = ap (λ (u : Bool). cond u b a) (sym e)

  pub higher_first : b ≡ None → a ≡ cond below b a
  higher_first h = higher_is false (le-ltb (score_of a) (score_of b) (omega (arith, ap score_of h)))

  module _ {w : Ranked} (h : b ≡ Some w) where
    pub higher_second : a ≡ None → b ≡ cond below b a
    higher_second k = higher_is true (lt-ltb (score_of a) (score_of b) (omega (arith, ap score_of h, ap score_of k)))

    pub higher_ranks : (t : Bool) {v : Ranked} → a ≡ Some v → ltb (value v.rank) (value w.rank) ≡ t
        → cond t b a ≡ cond below b a
    higher_ranks t {v} k e =
        let ranks = leb-suc-suc (suc (value v.rank)) (value w.rank) in
        higher_is t ((λ i. ltb (score_of (k i)) (score_of (h i))) ∙ ranks ∙ e)

-- ---- of a lag, from what is kept of it

module _ (y : List ℤ) (m : ℕ) where
  pub weighs_score : (w : Option Ranked) → Weighs y m w → score_of w ≡ score y m
  unfolding score
  weighs_score None h = ap (λ (b : Bool). cond b (suc (rank y m)) 0) (sym h)
  weighs_score (Some w) h = ap suc h.rank ∙ ap (λ (b : Bool). cond b (suc (rank y m)) 0) (sym h.counts)
