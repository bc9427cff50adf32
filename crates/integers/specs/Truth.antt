-- Laws of tests: what holds of one, of two, and of a choice by one.
use Rattle.std.specs.Prelude.{◌≡◌, refl, Bool, true, false, not, cond, ◌&&◌, ◌||◌, ℕ, ltb, leb, ℤ, pos, negsuc}
use Rattle.std.proofs.Common.{sym, ap, ◌∙◌, true≢false, lt-ltb, le-ltb, leb-true, leb-false}
use Rattle.std.specs.Int.Signed.{lt_z, le_z}

-- ---- one test

-- none holds and fails
pub clash : {X : Type 0} {b : Bool} → b ≡ true → b ≡ false → X
clash h k = absurd (true≢false (sym h ∙ k))

pub not-true : {b : Bool} → not b ≡ true → b ≡ false
not-true {b = true} h = sym h
not-true {b = false} h = refl

pub not-false : {b : Bool} → not b ≡ false → b ≡ true
not-false {b = true} h = refl
not-false {b = false} h = sym h

pub not-not : (b : Bool) → not (not b) ≡ b
not-not true = refl
not-not false = refl

-- ---- two tests

pub both : (a b : Bool) → (a && b) ≡ true → (a ≡ true) × (b ≡ true)
both true b h = (refl, h)
both false b h = (h, clash h refl)

pub neither : (a b : Bool) → (a || b) ≡ false → (a ≡ false) × (b ≡ false)
neither true b h = (h, clash refl h)
neither false b h = (refl, h)

-- a chain of tests, from the left as code takes it and from the right
pub and-regroup : (a b c : Bool) → ((a && b) && c) ≡ (a && (b && c))
and-regroup true b c = refl
and-regroup false b c = refl

-- ---- tests that code makes in order: x is a test as the code makes it, a the same test as it is defined

pub or-here : {x a : Bool} (b : Bool) → x ≡ a → x ≡ true → x ≡ (a || b)
or-here b e h = h ∙ ap (λ (t : Bool). t || b) (sym h ∙ e)

pub or_there : {x y a b : Bool} → x ≡ a → x ≡ false → y ≡ b → y ≡ (a || b)
or_there {b = b} e h k = k ∙ ap (λ (t : Bool). t || b) (sym h ∙ e)

pub and-here : {x a : Bool} (b : Bool) → x ≡ a → x ≡ false → x ≡ (a && b)
and-here b e h = h ∙ ap (λ (t : Bool). t && b) (sym h ∙ e)

pub and_there : {x y a b : Bool} → x ≡ a → x ≡ true → y ≡ b → y ≡ (a && b)
and_there {b = b} e h k = k ∙ ap (λ (t : Bool). t && b) (sym h ∙ e)

pub cond-here : {A : Type 0} {x a : Bool} (p q : A) → x ≡ a → x ≡ true → p ≡ cond a p q
cond-here p q e h = ap (λ (t : Bool). cond t p q) (sym h ∙ e)

pub cond_there : {A : Type 0} {x a : Bool} (p : A) {q r : A} → x ≡ a → x ≡ false → r ≡ q → r ≡ cond a p q
cond_there p {q} e h k = k ∙ ap (λ (t : Bool). cond t p q) (sym h ∙ e)

-- by a test that code takes negated
pub choice-off {ℓ} : {A : Type ℓ} (b : Bool) (x y : A) → not b ≡ true → y ≡ cond b x y
choice-off true x y h = ap (λ (t : Bool). cond t y x) (sym h)
choice-off false x y h = refl

pub choice_on {ℓ} : {A : Type ℓ} (b : Bool) (x y : A) → not b ≡ false → x ≡ cond b x y
choice_on true x y h = refl
choice_on false x y h = ap (λ (t : Bool). cond t x y) h

-- where f holds of the choice and not of the first arm
pub cond-passed : {A : Type 0} (f : A → Bool) (a : Bool) (p q : A) → f p ≡ false → f (cond a p q) ≡ true → (a ≡ false) × (f q ≡ true)
cond-passed f true p q e h = clash h e
cond-passed f false p q e h = (refl, h)

-- ---- orders

pub ltb_not_leb : (a b : ℕ) → ltb b a ≡ not (leb a b)
ltb_not_leb a b = decided (leb a b) refl
  where
    decided : (t : Bool) → leb a b ≡ t → ltb b a ≡ not t
    decided true e = le-ltb b a (leb-true a b e)
    decided false e = lt-ltb b a (leb-false a b e)

pub lt_z_not_le_z : (a b : ℤ) → lt_z b a ≡ not (le_z a b)
lt_z_not_le_z (pos a) (pos b) = ltb_not_leb a b
lt_z_not_le_z (pos a) (negsuc b) = refl
lt_z_not_le_z (negsuc a) (pos b) = refl
lt_z_not_le_z (negsuc a) (negsuc b) = ltb_not_leb b a

pub leb_not_ltb : (a b : ℕ) → leb a b ≡ not (ltb b a)
leb_not_ltb a b = sym (not-not (leb a b)) ∙ ap not (sym (ltb_not_leb a b))

pub le_z_not_lt_z : (a b : ℤ) → le_z a b ≡ not (lt_z b a)
le_z_not_lt_z a b = sym (not-not (le_z a b)) ∙ ap not (sym (lt_z_not_le_z a b))
