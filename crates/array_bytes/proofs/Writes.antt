-- Bytes written behind those that are held: zeros stand behind them again.
use Rattle.std.specs.Prelude.{◌≡◌, ◌≤◌, ◌<◌, ◌+◌, ◌-◌, ℕ, List, length, take, drop, replicate}
use Rattle.std.proofs.Common.{set, ap, sym, ◌∙◌, arith}
use Rattle.std.proofs.lemmas.List.{length-set, length-drop, length-take-le, drop-drop, drop-replicate, drop-set-lt}
use Rattle.std.proofs.lemmas.Slice.{drop-put_mid}
use borrow.Rule.Slice.PartMut.{put_mid, same_len_mid}
use Rattle.array_bytes.specs.ArrayBytes.{Padded}

module _ {n : ℕ} {bytes : List ℕ} {len : ℕ} (p : Padded n bytes len) where
  zeros_behind : (k : ℕ) → len ≤ k → drop k bytes ≡ replicate (n - k) 0
  zeros_behind k le =
      ap (λ (i : ℕ). drop i bytes) (omega arith)
      ∙ sym (drop-drop (k - len) len bytes)
      ∙ ap (drop (k - len)) p.zeros
      ∙ drop-replicate (k - len) (n - len) 0
      ∙ ap (λ (i : ℕ). replicate i 0) (omega arith)

  pub padded_set : (b : ℕ) → len < n → Padded n (set bytes len b) (len + 1)
  padded_set b lt = record {
    fits = omega arith;
    whole = length-set bytes len b ∙ p.whole;
    zeros = drop-set-lt (len + 1) bytes len b (omega arith) ∙ zeros_behind (len + 1) (omega arith);
  }

  pub padded_put : (k : ℕ) (ys : List ℕ) (m : ℕ) → length ys ≡ length (take k (drop len bytes)) → m ≡ len + k → m ≤ n → Padded n (put_mid len k bytes ys) m
  padded_put k ys m same q le =
      let e : length ys ≡ k = same ∙ length-take-le k (drop len bytes) (omega (arith, p.whole, length-drop len bytes)) in
      record {
        fits = le;
        whole = same_len_mid len k bytes ys same ∙ p.whole;
        zeros = drop-put_mid len k bytes ys m (omega arith) (omega (arith, p.whole)) e ∙ zeros_behind m (omega arith);
      }
