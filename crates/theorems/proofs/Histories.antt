-- The history after a frame is words of 16 bits, whatever it was before.
use mathlib.Core.Path.{◌≡◌, sym, ap, ◌∙◌, subst}
use mathlib.Core.Bool.{true}
use mathlib.Core.List.{List, ◌++◌}
use mathlib.Core.Logic.{⊎_elim}
use Prim.Native.Nat.{ℕ, ◌+◌, ◌-◌, ◌≤◌, ◌<◌}
use native.Mathlib.Omega.{arith}
use lib.ListN.{take, drop, length, length-append, length-drop, get_or-append}
use lib.Seq.{length-take-le, get_or-take, get_or-append-add}
use lib.IntN.{ℤ, pos, ◌+ℤ◌}
use mir.Syntax.{w16}
use mir.Val.{SFits}
use Rattle.integers.specs.Base.{entry, tabulate, AllFit}
use Rattle.integers.specs.Fill.{tabulate-at, tabulate-length}
use Rattle.integers.specs.Natural.{le-or-lt}
use Rattle.excitation.specs.Excitation.{subframe_place, with_subframe, in_turn, limited_sum}
use Rattle.excitation.specs.declared.Subframe.{Subframe}
use Rattle.excitation.specs.declared.Subframe.TheVariants.{Zero, One, Two, Three}
use Rattle.adaptive.specs.Adaptive.{limited_lag, adaptive}
use Rattle.std.specs.Prelude.{Option, Some, None}
use Rattle.noise.specs.Noise.{attenuated, start_word, word_after, noise_subframe}
use Rattle.erasure.specs.Erasure.{replayed, erased_excitation}
use Rattle.record.specs.declared.Block.{Block}
use Rattle.widths.specs.Widths.{frame_signal, history_after}
use Rattle.state.specs.State.{are_words}
use Rattle.state.proofs.Bounds.{words-from}
use Rattle.decoder.specs.Frame.{received_to}
use Rattle.theorems.proofs.Words.{word_fits, tabulate-fits}

-- ---- a subframe: sixty words

record Sixty (e : List ℤ) : Type 0 where
  pub size : length e ≡ 60
  pub fit : AllFit w16 e

sixty_tabulated : {f : ℕ → ℤ} → ((i : ℕ) → SFits w16 (f i)) → Sixty (tabulate f 60)
sixty_tabulated {f} h = record { size = tabulate-length f 60; fit = tabulate-fits 60 h }

noise_sixty : (gain : ℤ) (w : ℕ) → Sixty (noise_subframe gain w)
unfolding noise_subframe
noise_sixty gain w = sixty_tabulated (λ i. word_fits _)

replay_sixty : (x : List ℤ) (p l : ℕ) (gain : ℤ) → Sixty (replayed x p l gain)
unfolding replayed
replay_sixty x p l gain = sixty_tabulated (λ i. word_fits _)

sum_sixty : (u v : List ℤ) → Sixty (limited_sum u v)
unfolding limited_sum
sum_sixty u v = sixty_tabulated (λ n. word_fits (entry u n +ℤ entry v n))

-- ---- a frame's signal, of which the samples from the history up to q are words

pub record WordsTo (q : ℕ) (x : List ℤ) : Type 0 where
  pub size : length x ≡ 386
  pub at : (i : ℕ) → 146 ≤ i → i < q → SFits w16 (entry x i)

words-start : {x : List ℤ} → length x ≡ 386 → WordsTo 146 x
words-start h = record { size = h; at = λ i p q. absurd (let z : ⊥ = omega arith in z) }

module _ (x e : List ℤ) (p : ℕ) (room : p ≤ 326) (s : Sixty e) (w : WordsTo p x) where
  before-length : length (take p x) ≡ p
  before-length = length-take-le p x (omega (arith, w.size))

  before : (i : ℕ) → i < p → entry (with_subframe x p e) i ≡ entry x i
  before i h =
      get_or-append (take p x) (e ++ drop (p + 60) x) (pos 0) i (omega (arith, before-length)) ∙ get_or-take p x i (pos 0) h

  -- the new samples
  inside : (i : ℕ) → i < 60 → entry (with_subframe x p e) (p + i) ≡ entry e i
  inside i h =
      ap (λ (n : ℕ). entry (with_subframe x p e) (n + i)) (sym before-length)
      ∙ get_or-append-add (take p x) (e ++ drop (p + 60) x) i (pos 0)
      ∙ get_or-append e (drop (p + 60) x) (pos 0) i (omega (arith, s.size))

  words-next : WordsTo (p + 60) (with_subframe x p e)
  words-next = record {
    size = simp (length-append, length-drop) (omega (arith, before-length, s.size, w.size));
    at = λ i h k. ⊎_elim (new i k) (old i h) (le-or-lt p i);
  }
    where
      new : (i : ℕ) → i < p + 60 → p ≤ i → SFits w16 (entry (with_subframe x p e) i)
      new i k h =
          let z : p + (i - p) ≡ i = omega arith in
          subst (λ (n : ℕ). SFits w16 (entry (with_subframe x p e) n)) z
          (subst (SFits w16) (sym (inside (i - p) (omega arith))) (s.fit.at (i - p)))

      old : (i : ℕ) → 146 ≤ i → i < p → SFits w16 (entry (with_subframe x p e) i)
      old i h k = subst (SFits w16) (sym (before i k)) (w.at i h k)

-- ---- all four subframes, whatever they are made from

module _ (e : List ℤ → Subframe → List ℤ) (s : (x : List ℤ) (k : Subframe) → Sixty (e x k)) where
  abbrev pushed : List ℤ → Subframe → List ℤ
  pushed x k = with_subframe x (subframe_place k) (e x k)

  words_turns : (x : List ℤ) → length x ≡ 386 → WordsTo 386 (in_turn pushed x)
  words_turns x h =
      let one = words-next x (e x Zero) 146 (omega arith) (s x Zero) (words-start h) in
      let x1 = pushed x Zero in
      let two = words-next x1 (e x1 One) 206 (omega arith) (s x1 One) one in
      let x2 = pushed x1 One in
      let three = words-next x2 (e x2 Two) 266 (omega arith) (s x2 Two) two in
      let x3 = pushed x2 Two in
      words-next x3 (e x3 Three) 326 (omega arith) (s x3 Three) three

signal_length : (h : List ℤ) → length (frame_signal h) ≡ 386
signal_length h = tabulate-length (entry h) 386

pub history-words : (x : List ℤ) → WordsTo 386 x → are_words (history_after x) 146 ≡ true
history-words x w =
    let read = tabulate-at (λ j. entry x (240 + j)) 146 in
    words-from (history_after x) 146
    (λ i p. subst (SFits w16) (sym (read i (pos 0) p)) (w.at (240 + i) (omega arith) (omega arith)))

-- ---- of an erased and of a received frame

pub erased_words : (v : Option ℕ) (sum gain : ℤ) (run : ℕ) (h : List ℤ) →
    WordsTo 386 (erased_excitation v sum gain run (frame_signal h))
unfolding erased_excitation
erased_words None sum gain run h =
    words_turns (λ x k. noise_subframe (attenuated gain run) (word_after (start_word run) (subframe_place k - 146)))
    (λ x k. noise_sixty (attenuated gain run) (word_after (start_word run) (subframe_place k - 146))) (frame_signal h) (signal_length h)
erased_words (Some lag) sum gain run h =
    words_turns (λ x k. replayed x (subframe_place k) (limited_lag (pos lag)) (attenuated sum run))
    (λ x k. replay_sixty x (subframe_place k) (limited_lag (pos lag)) (attenuated sum run)) (frame_signal h) (signal_length h)

pub received_words : (b : Subframe → Block) (h : List ℤ) →
    WordsTo 386 (in_turn (λ x k. received_to (b k) x k) (frame_signal h))
received_words b h =
    words_turns (λ x k. limited_sum (adaptive x (subframe_place k) (limited_lag (b k).lag) (b k).taps) (b k).fixed)
    (λ x k. sum_sixty (adaptive x (subframe_place k) (limited_lag (b k).lag) (b k).taps) (b k).fixed)
    (frame_signal h) (signal_length h)
