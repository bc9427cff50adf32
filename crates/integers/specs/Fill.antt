-- Laws of lists made from the front, and of loops that fill an array or a lent slice, over any element type.
use Rattle.std.specs.Prelude.{◌≡◌, length, take, drop, set, get_or}
use Rattle.std.proofs.Math.Path.{refl, ap}
use Rattle.std.proofs.Common.{sym, ◌∙◌, eq-or-lt_of_le, length-append, length-set, drop_of_length-le, take-suc-set, take_all}
use mathlib.Core.List.{List, [], ◌∷◌, ◌++◌, append-nil}
use Rattle.std.proofs.Math.Logic.{⊎_elim}
use Prim.Native.Nat.{ℕ, zero, suc, ◌+◌, ◌≤◌, ◌<◌}
use Rattle.std.proofs.Math.Numerals.{add-one}
use native.Mathlib.Omega.{arith}
use Rattle.std.proofs.Math.ListN.{get_or-append}
use Rattle.std.proofs.Math.Seq.{take-suc, drop-cons, append_snoc}
use Rattle.std.proofs.lemmas.List.{set_at, get_or_at}
use Rattle.integers.specs.Base.{tabulate, Fills}

-- ---- tabulate

module _ {ℓ} {A : Type ℓ} where
  pub tabulate-zero : (f : ℕ → A) → tabulate f 0 ≡ []
  unfolding tabulate
  tabulate-zero f = refl

  pub tabulate-step : (f : ℕ → A) (n : ℕ) → tabulate f (n + 1) ≡ tabulate f n ++ (f n ∷ [])
  unfolding tabulate
  tabulate-step f n = rw add-one

  pub tabulate-length : (f : ℕ → A) (n : ℕ) → length (tabulate f n) ≡ n
  unfolding tabulate
  tabulate-length f zero = refl
  tabulate-length f (suc n) = rw (length-append, tabulate-length f n) (add-one n)

  pub tabulate-at : (f : ℕ → A) (n i : ℕ) (d : A) → i < n → get_or (tabulate f n) i d ≡ f i
  unfolding tabulate
  tabulate-at f zero i d h = absurd (let z : ⊥ = omega arith in z)
  tabulate-at f (suc n) i d h =
      let m : i ≤ n = omega arith in
      ⊎_elim (λ (q : i ≡ n). rw q (get_or_at (tabulate f n) (f n) [] d n (tabulate-length f n)))
      (λ (e : i < n). get_or-append (tabulate f n) (f n ∷ []) d i (rw (tabulate-length f n) e) ∙ tabulate-at f n i d e)
      (eq-or-lt_of_le m)

  pub tabulate_ext : (f g : ℕ → A) (n : ℕ) → ((i : ℕ) → i < n → f i ≡ g i) → tabulate f n ≡ tabulate g n
  unfolding tabulate
  tabulate_ext f g zero h = refl
  tabulate_ext f g (suc n) h = λ i. tabulate_ext f g n (λ j p. h j (omega arith)) i ++ (h n (omega arith) i ∷ [])

  -- the first n elements of a list are those that are read from it
  pub take-tabulate : (d : A) (l : List A) (n : ℕ) → n ≤ length l → take n l ≡ tabulate (λ i. get_or l i d) n
  unfolding tabulate
  take-tabulate d l zero h = refl
  take-tabulate d l (suc n) h = take-suc l n d h ∙ ap (λ (r : List A). r ++ (get_or l n d ∷ [])) (take-tabulate d l n (omega arith))

  -- what is read from a list of n is the list
  pub entries_all : (d : A) (l : List A) (n : ℕ) → length l ≡ n → tabulate (λ i. get_or l i d) n ≡ l
  entries_all d l n e = sym (take-tabulate d l n (omega arith)) ∙ take_all n l (omega arith)

-- ---- an array of N: start, a turn that stores f i at i, and the end

module _ {ℓ} {A : Type ℓ} where
  pub fills_start : {f : ℕ → A} {N : ℕ} {l : List A} → length l ≡ N → Fills f N l 0
  fills_start {f} e = record { bound = omega arith; len = e; front = sym (tabulate-zero f) }

  pub fills_next : {f : ℕ → A} {N : ℕ} {l : List A} {i : ℕ} → Fills f N l i → i < N → {v : A} → v ≡ f i → Fills f N (set l i v) (i + 1)
  fills_next {f} {N} {l} {i} a h {v} e = record {
    bound = omega arith;
    len = length-set l i v ∙ a.len;
    front = rw add-one (take-suc-set l i v (omega (arith, a.len))) ∙ (λ k. a.front k ++ (e k ∷ [])) ∙ sym (tabulate-step f i);
  }

  pub fills_end : {f : ℕ → A} {N : ℕ} {l : List A} {i : ℕ} → Fills f N l i → N ≤ i → l ≡ tabulate f N
  fills_end {f} {N} {l} {i} a h = sym (take_all i l (omega (arith, a.len))) ∙ a.front ∙ ap (tabulate f) (omega (arith, a.bound))

-- ---- a lent slice that held o: the places from k on are as they were

module _ {ℓ} {A : Type ℓ} where
  pub rest-start : (f : ℕ → A) (o : List A) → o ≡ tabulate f 0 ++ drop 0 o
  unfolding tabulate
  rest-start f o = refl

  pub rest-next : (f : ℕ → A) (o : List A) (k : ℕ) (d : A) → k < length o → set (tabulate f k ++ drop k o) k (f k) ≡ tabulate f (k + 1) ++ drop (k + 1) o
  unfolding tabulate
  rest-next f o k d h =
      rw (add-one k, drop-cons o k d h, append_snoc (tabulate f k) (f k) (drop (suc k) o))
      (set_at (tabulate f k) (get_or o k d) (drop (suc k) o) (f k) k (tabulate-length f k))

  pub rest_end : (f : ℕ → A) (o : List A) (k : ℕ) → length o ≤ k → tabulate f k ++ drop k o ≡ tabulate f k
  rest_end f o k h = rw (drop_of_length-le o h) (append-nil (tabulate f k))
