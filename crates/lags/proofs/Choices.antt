-- Laws of the direction that is chosen, in its cases.
use Rattle.std.specs.Prelude.{◌≡◌, Bool, true, false, cond, Option, Some, None, IfSome, ℕ, ◌*◌, ◌/◌, ltb}
use Rattle.std.proofs.Common.{sym, ap, ◌∙◌}
use Rattle.lags.specs.Lags.{chosen}
use Rattle.lags.specs.declared.Direction.TheVariants.{Forward, Backward}
use Rattle.lags.specs.declared.Best.{Best}
use Rattle.lags.specs.declared.Choice.{Choice}

abbrev forward : Best → Option Choice
forward f = Some (record { to = Forward; best = f })

abbrev backward : Option Best → Option Choice
backward None = None
backward (Some b) = Some (record { to = Backward; best = b })

pub chosen_none : {f : Option Best} (b : Option Best) → f ≡ None → backward b ≡ chosen f b
unfolding chosen
chosen_none None e = sym (ap (λ (z : Option Best). chosen z None) e)
chosen_none (Some b) e = sym (ap (λ (z : Option Best). chosen z (Some b)) e)

module _ {f b : Option Best} {v : Best} (e : f ≡ Some v) where
  pub chosen-first : b ≡ None → forward v ≡ chosen f b
  unfolding chosen
  chosen-first k = sym (λ i. chosen (e i) (k i))

  module _ {w : Best} (k : b ≡ Some w) where
    by_floors : (t : Bool) → ltb (v.c * v.c / v.d) (w.c * w.c / w.d) ≡ t → cond t (backward (Some w)) (forward v) ≡ chosen f b
    unfolding chosen
    by_floors t h = sym ((λ i. chosen (e i) (k i)) ∙ ap (λ (z : Bool). cond z (backward (Some w)) (forward v)) h)

    pub chosen_less : ltb (v.c * v.c / v.d) (w.c * w.c / w.d) ≡ true → backward (Some w) ≡ chosen f b
    chosen_less h = by_floors true h

    pub chosen-not_less : ltb (v.c * v.c / v.d) (w.c * w.c / w.d) ≡ false → forward v ≡ chosen f b
    chosen-not_less h = by_floors false h

-- what holds of both directions holds of the one that is chosen
pub chosen-holds : (P : Choice → Type 0) (f b : Option Best) → IfSome f (λ z. P (record { to = Forward; best = z })) → IfSome b (λ z. P (record { to = Backward; best = z }))
    → IfSome (chosen f b) P
unfolding chosen
chosen-holds P None None p q = tt
chosen-holds P None (Some b) p q = q
chosen-holds P (Some f) None p q = p
chosen-holds P (Some f) (Some b) p q = one _
  where
    one : (t : Bool) → IfSome (cond t (Some (record { to = Backward; best = b })) (Some (record { to = Forward; best = f }))) P
    one true = q
    one false = p
