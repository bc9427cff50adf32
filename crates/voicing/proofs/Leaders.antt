-- The lag that leads, and what is answered.
use Rattle.std.specs.Prelude.{◌≡◌, refl, Bool, true, false, cond, ◌&&◌, Option, Some, None, List, ℕ, suc, ◌+◌, ◌-◌, ◌≤◌, ltb, ℤ}
use Rattle.std.specs.Bool.{then_some}
use Rattle.std.proofs.Common.{sym, ap, ◌∙◌, subst, arith}
use Rattle.voicing.specs.Voicing.{counts, score, gated, candidate, first_highest, leading_lag, voicing_of}
use Rattle.voicing.specs.Search.{score_of, IsRanked, Weighs}
use Rattle.voicing.specs.declared.Ranked.{Ranked}
use Rattle.voicing.proofs.Scores.{weighs_score}

module _ (y : List ℤ) (centre : ℕ) where
  -- ---- the search

  -- the lag that leads of the first n + 1 around the centre
  abbrev pub leader : ℕ → ℕ
  leader n = candidate centre (first_highest (λ k. score y (candidate centre k)) n)

  pub leads-start : (w : Option Ranked) → Weighs y (candidate centre 0) w → Weighs y (leader 0) w
  unfolding first_highest
  leads-start w h = h

  one_of : (t : Bool) (j k : ℕ) (a b : Option Ranked) → Weighs y (candidate centre j) a → Weighs y (candidate centre k) b
      → Weighs y (candidate centre (cond t k j)) (cond t b a)
  one_of true j k a b h l = l
  one_of false j k a b h l = h

  leads_higher : (n : ℕ) (a b : Option Ranked) → Weighs y (leader n) a → Weighs y (candidate centre (suc n)) b
      → Weighs y (leader (suc n)) (cond (ltb (score_of a) (score_of b)) b a)
  unfolding first_highest
  leads_higher n a b h l =
      let m = leader n in
      let last = candidate centre (suc n) in
      let place = first_highest (λ k. score y (candidate centre k)) n in
      subst (λ (t : Bool). Weighs y (leader (suc n)) (cond t b a))
      (sym (λ i. ltb (weighs_score y m a h i) (weighs_score y last b l i)))
      (one_of (ltb (score y m) (score y last)) place (suc n) a b h l)

  -- a turn of the loop
  pub leads-next : (k : ℕ) → 1 ≤ k → (a b r : Option Ranked) → Weighs y (leader (k - 1)) a → Weighs y (candidate centre k) b
      → r ≡ cond (ltb (score_of a) (score_of b)) b a → Weighs y (leader (k + 1 - 1)) r
  leads-next k p a b r h l e =
      let last : k ≡ suc (k - 1) = omega arith in
      let next : suc (k - 1) ≡ k + 1 - 1 = omega arith in
      let kept = leads_higher (k - 1) a b h (subst (λ (n : ℕ). Weighs y (candidate centre n) b) last l) in
      subst (λ (n : ℕ). Weighs y (leader n) r) next (subst (Weighs y (leader (suc (k - 1)))) (sym e) kept)

  pub leads_end : leader 6 ≡ leading_lag y centre
  unfolding leading_lag
  leads_end = refl

  -- ---- the answer

  abbrev m : ℕ
  m = leading_lag y centre

  -- whether it counts and passes the gate
  answer : {t : Bool} → (counts y m && gated y m) ≡ t → cond t (Some m) None ≡ voicing_of y centre
  unfolding voicing_of
  answer p = ap (λ (b : Bool). cond b (Some m) None) (sym p)

  module _ (w : Ranked) (h : IsRanked y m w) where
    passes : (counts y m && gated y m) ≡ w.gated
    passes = ap (λ (b : Bool). b && gated y m) h.counts ∙ sym h.gated

    gated_lag : (t : Bool) → (counts y m && gated y m) ≡ t → then_some t w.lag ≡ voicing_of y centre
    gated_lag true p = ap Some h.lag ∙ answer p
    gated_lag false p = answer p

    pub counted : then_some w.gated w.lag ≡ voicing_of y centre
    counted = gated_lag w.gated passes

  pub uncounted : counts y m ≡ false → None ≡ voicing_of y centre
  uncounted h = answer (ap (λ (b : Bool). b && gated y m) h)

  -- of one that counts and passes the gate its lag
  abbrev answer_of : Option Ranked → Option ℕ
  answer_of None = None
  answer_of (Some w) = then_some w.gated w.lag

  pub answered : (w : Option Ranked) → Weighs y (leading_lag y centre) w → answer_of w ≡ voicing_of y centre
  answered None h = uncounted h
  answered (Some w) h = counted w h
