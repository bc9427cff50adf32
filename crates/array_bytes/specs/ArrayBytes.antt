-- What a contract sees of an `ArrayBytes`.
use Rattle.std.specs.Prelude.{◌≡◌, ◌≤◌, ◌-◌, ◌++◌, ℕ, List, length, take, drop, replicate}
use Rattle.std.proofs.Common.{ap, sym, ◌∙◌, arith}
use Rattle.std.proofs.lemmas.List.{take-append-drop, length-take-le}

-- the bytes, in order
pub record ArrayBytes : Type 0 where
  pub items : List ℕ

-- how an array of n bytes holds its first len: zeros stand behind them
pub record Padded (n : ℕ) (bytes : List ℕ) (len : ℕ) : Type 0 where
  pub fits : len ≤ n
  pub whole : length bytes ≡ n
  pub zeros : drop len bytes ≡ replicate (n - len) 0

-- those bytes give the length and the array back
module _ (n : ℕ) (bytes : List ℕ) (len : ℕ) (p : Padded n bytes len) where
  pub length_back : length (take len bytes) ≡ len
  length_back = length-take-le len bytes (omega (arith, p.fits, p.whole))

  pub padded_back : take len bytes ++ replicate (n - length (take len bytes)) 0 ≡ bytes
  padded_back =
      ap (λ (k : ℕ). take len bytes ++ replicate (n - k) 0) length_back
      ∙ ap (λ (zs : List ℕ). take len bytes ++ zs) (sym p.zeros)
      ∙ take-append-drop len bytes
