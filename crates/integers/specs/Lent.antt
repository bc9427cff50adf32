-- Laws of a part of a slice that was lent to a callee and came back changed.
use Rattle.std.specs.Prelude.{◌≡◌, List, ◌++◌, ℕ, length, take, drop}
use Rattle.std.proofs.Common.{append_assoc, take_at, drop_at}

-- k elements from a on were lent, of a list whose first a are `done`, and came back as ys: the rest is as it was
pub lent {ℓ} : {A : Type ℓ} (done rest ys : List A) (a k : ℕ) → length done ≡ a → take a (done ++ rest) ++ (ys ++ drop k (drop a (done ++ rest))) ≡ (done ++ ys) ++ drop k rest
lent done rest ys a k h = rw (take_at done rest a h, drop_at done rest a h, append_assoc)
