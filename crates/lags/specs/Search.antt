-- What the contracts of the search's functions say: of the energy of samples that move, and of the best of the lags so far.
use Rattle.std.specs.Prelude.{◌≡◌, Bool, true, false, Option, Some, None, List, ℕ, ◌+◌, ◌-◌, ◌*◌, ◌^◌, ◌≤◌, ◌<◌, ltb, ℤ}
use Rattle.lags.specs.Lags.{window, counts, exceeds, c, d}
use Rattle.lags.specs.declared.Direction.{Direction}
use Rattle.lags.specs.declared.Direction.TheVariants.{Forward, Backward}
use Rattle.lags.specs.declared.Best.{Best}

-- the place of the next lag's samples
abbrev pub next : Direction → ℕ → ℕ
next Forward q = q + 1
next Backward q = q - 1

-- whether c²/d is above that of the best so far
abbrev pub beats : Option Best → ℕ → ℕ → Bool
beats None c d = true
beats (Some b) c d = ltb (b.c * b.c * d) (c * c * b.d)

-- sums of sixty products of 16 bits; the bound of an energy that is carried from lag to lag grows by a square at each
pub record Small (b : Best) : Type 0 where
  pub first : b.c ≤ 2 ^ 36
  pub second : b.d ≤ 2 ^ 37

-- the samples of the lag lie in the signal
pub record Inside (to : Direction) (p : ℕ) (b : Best) : Type 0 where
  pub back : b.lag ≤ p
  pub ahead : window to p b.lag ≤ 326

module _ (x : List ℤ) (to : Direction) (p lo k : ℕ) where
  -- m is the first of the k lags from lo on that counts and that none of them exceeds; c' and d' are its sums
  pub record Leading (m c' d' : ℕ) : Type 0 where
    pub from : lo ≤ m
    pub below : m < lo + k
    pub counted : counts x to p m ≡ true
    pub is_c : c' ≡ c x to p m
    pub is-d : d' ≡ d x to p m
    -- it exceeds each before it, and none exceeds it
    pub before : (j : ℕ) → lo + j < m → counts x to p (lo + j) ≡ true → exceeds x to p m (lo + j) ≡ true
    pub unexceeded : (j : ℕ) → j < k → counts x to p (lo + j) ≡ true → exceeds x to p (lo + j) m ≡ false

  -- best is the best of the k lags from lo on
  abbrev pub Leads : Option Best → Type 0
  Leads None = (j : ℕ) → j < k → counts x to p (lo + j) ≡ false
  Leads (Some b) = Leading b.lag b.c b.d
