-- What the definitions, promises and invariants of the crates above are made of. Laws of these stand in the other modules.
use Rattle.std.specs.Prelude.{◌≡◌, Bool, true, cond, ◌&&◌, List, [], ◌∷◌, ◌++◌, ℕ, zero, suc, ◌*◌, ◌≤◌, min, get_or, take, length, ℤ, pos, negsuc, nat_abs, ◌+ℤ◌, T}
use Rattle.std.specs.Int.Signed.{shr_z, lt_z, non_neg}
use Rattle.std.specs.Int.{Width}
use Rattle.std.proofs.Common.{SFits, to_z}

-- ---- arithmetic

-- the floor of z / m
abbrev pub floor_div : ℤ → ℕ → ℤ
floor_div z m = shr_z z m

-- the number nearest to z in -(M + 1) ..= M (G.191's saturation; `saturated-bound` and `saturated_nearest` of Saturation)
unfoldable pub saturated : ℕ → ℤ → ℤ
saturated M (pos n) = pos (min n M)
saturated M (negsuc n) = negsuc (min n M)

-- z limited to lo ..= hi
abbrev pub limited : ℤ → ℤ → ℤ → ℤ
limited lo hi z = cond (lt_z z lo) lo (cond (lt_z hi z) hi z)

-- f 0 + f 1 + … + f (n - 1)
unfoldable pub sum_to : (ℕ → ℤ) → ℕ → ℤ
sum_to f zero = pos 0
sum_to f (suc n) = sum_to f n +ℤ f n

-- z is up z - down z, and one of the two is 0
abbrev pub up : ℤ → ℕ
up (pos n) = n
up (negsuc n) = 0

abbrev pub down : ℤ → ℕ
down (pos n) = 0
down (negsuc n) = suc n

-- ---- lists

-- the element at i, 0 past the end
abbrev pub entry : List ℤ → ℕ → ℤ
entry xs i = get_or xs i (pos 0)

module _ {ℓ} {A : Type ℓ} where
  -- f 0, f 1, …, f (n - 1)
  unfoldable pub tabulate : (ℕ → A) → ℕ → List A
  tabulate f zero = []
  tabulate f (suc n) = tabulate f n ++ (f n ∷ [])

  -- the test p holds of each element and its place, counted from k
  unfoldable pub every : (ℕ → A → Bool) → ℕ → List A → Bool
  every p k [] = true
  every p k (x ∷ xs) = p k x && every p (suc k) xs

-- ---- facts, as records so that what they speak of can be inferred

-- |z| ≤ B
pub record Within (B : ℕ) (z : ℤ) : Type 0 where
  pub within : nat_abs z ≤ B

-- each element is within B
pub record AllWithin (B : ℕ) (xs : List ℤ) : Type 0 where
  pub at : (i : ℕ) → Within B (entry xs i)

-- each element fits a signed type of width w
pub record AllFit (w : Width) (xs : List ℤ) : Type 0 where
  pub at : (i : ℕ) → SFits w (entry xs i)

-- the bits n, read as a signed number of width w, are z
pub record Is (w : Width) (n : ℕ) (z : ℤ) : Type 0 where
  pub is : to_z w n ≡ z

-- z is not negative and has n's size
pub record Sized (n z : ℤ) : Type 0 where
  pub sign : T (non_neg z)
  pub size : nat_abs z ≡ nat_abs n

-- the bits acc of width w are the sum of the first j values of f, each of them within B
pub record Sums (w : Width) (f : ℕ → ℤ) (B acc j : ℕ) : Type 0 where
  pub small : Within (j * B) (sum_to f j)
  pub is : to_z w acc ≡ sum_to f j

-- l has N elements, and its first i are those of f
pub record Fills {ℓ} {A : Type ℓ} (f : ℕ → A) (N : ℕ) (l : List A) (i : ℕ) : Type ℓ where
  pub bound : i ≤ N
  pub len : length l ≡ N
  pub front : take i l ≡ tabulate f i
