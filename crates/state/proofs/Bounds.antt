-- What holds of a state in bounds, and how a state is shown to be.
use mathlib.Core.Path.{◌≡◌, refl, sym, ◌∙◌}
use mathlib.Core.Bool.{Bool, true, ◌&&◌}
use mathlib.Core.List.{List, [], ◌∷◌}
use mathlib.Core.Logic.{⊎_elim}
use Prim.Native.Nat.{ℕ, ◌≤◌, ◌<◌}
use native.Mathlib.Omega.{arith}
use lib.ListN.{length, get_or-eq_default}
use lib.IntN.{ℤ, pos, negsuc}
use lib.Signed.{◌≤ℤ◌}
use mir.Syntax.{w16}
use mir.Val.{SFits}
use Rattle.integers.specs.Base.{entry, tabulate}
use Rattle.integers.specs.Natural.{le-or-lt}
use Rattle.integers.specs.Linear.{line, line-fits, fits-between}
use Rattle.integers.specs.Fill.{tabulate_ext, entries_all}
use Rattle.tables.specs.Constants.{exc_hist_size, lpc_order}
use Rattle.basicop.specs.Operators.{word16}
use Rattle.state.specs.declared.State.{State}
use Rattle.state.specs.State.{fresh_state, between, all_to, are_words, Bounded, is_in_bounds, are_in_bounds, bounded_numbers, in_bounds}
use Rattle.widths.specs.Widths.{frame_signal, narrowed}
use Rattle.widths.proofs.Narrowed.{word_narrowed, past-narrowed}
use Rattle.integers.specs.Truth.{both}
use Rattle.state.proofs.Tests.{between_in, between_out, all_at, all_from}

-- ---- words of 16 bits

abbrev pub is_word : List ℤ → ℕ → Bool
is_word xs i = between (negsuc 32767) (pos 32767) (entry xs i)

pub words-at : (xs : List ℤ) (n : ℕ) → are_words xs n ≡ true → (i : ℕ) → i < n → SFits w16 (entry xs i)
words-at xs n h i p =
    let z = entry xs i in
    let b = between_in (negsuc 32767) (pos 32767) z (all_at (is_word xs) n h i p) in
    fits-between 32767 z b.0 b.1 tt

pub words-from : (xs : List ℤ) (n : ℕ) → ((i : ℕ) → i < n → SFits w16 (entry xs i)) → are_words xs n ≡ true
words-from xs n h = all_from (is_word xs) n (λ i p. in_type (entry xs i) (h i p))
  where
    in_type : (z : ℤ) → SFits w16 z → between (negsuc 32767) (pos 32767) z ≡ true
    in_type z f = between_out (negsuc 32767) (pos 32767) z (omega (line, line-fits z f)) (omega (line, line-fits z f))

-- each is its own nearest word
pub words-narrowed : (xs : List ℤ) (n : ℕ) → are_words xs n ≡ true → narrowed xs n ≡ tabulate (entry xs) n
words-narrowed xs n h =
    tabulate_ext (λ i. word16 (entry xs i)) (entry xs) n (λ i p. word_narrowed (entry xs i) (words-at xs n h i p))

-- ---- the fields

-- what holds of numbers in bounds
abbrev pub Lies : Bounded → Type 0
Lies b = (b.least ≤ℤ b.value) × (b.value ≤ℤ b.most)

abbrev pub AllLie : List Bounded → Type 0
AllLie [] = Unit
AllLie (b ∷ bs) = Lies b × AllLie bs

bounds_in : (bs : List Bounded) → are_in_bounds bs ≡ true → AllLie bs
bounds_in [] h = tt
bounds_in (b ∷ bs) h =
    let p = both (is_in_bounds b) (are_in_bounds bs) h in
    (between_in b.least b.most b.value p.0, bounds_in bs p.1)

bounds_out : (bs : List Bounded) → AllLie bs → are_in_bounds bs ≡ true
bounds_out [] h = refl
bounds_out (b ∷ bs) h = λ i. between_out b.least b.most b.value h.0.0 h.0.1 i && bounds_out bs h.1 i

-- the other tests of in_bounds
abbrev pub is_history : State → Bool
is_history s = are_words s.exc_hist exc_hist_size

abbrev pub is_memory : State → Bool
is_memory s = are_words s.syn_mem lpc_order

abbrev pub are_numbers : State → Bool
are_numbers s = are_in_bounds (bounded_numbers s)

-- of a state in bounds: the gain, the lags of subframes 3 and 2, the tap sum and the unvoiced gain, in this order

pub words_of : (s : State) → in_bounds s ≡ true → (is_history s ≡ true) × (is_memory s ≡ true)
unfolding in_bounds
words_of s h = let a = both (is_history s) (is_memory s && are_numbers s) h in (a.0, (both (is_memory s) (are_numbers s) a.1).0)

pub numbers_of : (s : State) → in_bounds s ≡ true → AllLie (bounded_numbers s)
unfolding in_bounds
numbers_of s h =
    let a = both (is_history s) (is_memory s && are_numbers s) h in
    bounds_in (bounded_numbers s) (both (is_memory s) (are_numbers s) a.1).1

-- and back
pub bounds_from : (s : State) → is_history s ≡ true → is_memory s ≡ true → AllLie (bounded_numbers s) → in_bounds s ≡ true
unfolding in_bounds
bounds_from s x m n = λ i. x i && (m i && bounds_out (bounded_numbers s) n i)

-- ---- what the frame works on, of a state in bounds

pub signal_narrowed : (s : State) → length s.exc_hist ≡ 146 → in_bounds s ≡ true → narrowed s.exc_hist 386 ≡ frame_signal s.exc_hist
signal_narrowed s e h = tabulate_ext (λ i. word16 (entry x i)) (entry x) 386 (λ i p. ⊎_elim (past i) (within i) (le-or-lt 146 i))
  where
    x : List ℤ
    x = s.exc_hist

    past : (i : ℕ) → 146 ≤ i → word16 (entry x i) ≡ entry x i
    past i q = let l : length x ≤ i = omega arith in past-narrowed x i l ∙ sym (get_or-eq_default x (pos 0) l)

    within : (i : ℕ) → i < 146 → word16 (entry x i) ≡ entry x i
    within i q = word_narrowed (entry x i) (words-at x 146 (words_of s h).0 i q)

pub memory_narrowed : (s : State) → length s.syn_mem ≡ 10 → in_bounds s ≡ true → narrowed s.syn_mem 10 ≡ s.syn_mem
memory_narrowed s e h = words-narrowed s.syn_mem 10 (words_of s h).1 ∙ entries_all (pos 0) s.syn_mem 10 e

-- ---- a fresh state

pub fresh_in_bounds : (on : Bool) → in_bounds (fresh_state on) ≡ true
unfolding in_bounds all_to fresh_state
fresh_in_bounds on = refl
