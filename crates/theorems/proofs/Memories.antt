-- The memory of the synthesis after a frame is words of 16 bits, whatever it was before.
use mathlib.Core.Path.{◌≡◌, sym, ap, subst}
use mathlib.Core.Bool.{Bool, true}
use mathlib.Core.List.{List, []}
use Prim.Native.Nat.{ℕ, ◌+◌, ◌-◌}
use lib.ListN.{get_or}
use lib.IntN.{ℤ}
use mir.Syntax.{w16}
use mir.Val.{SFits}
use Rattle.integers.specs.Base.{entry, AllFit}
use Rattle.filters.specs.Filters.{last_ten}
use Rattle.synthesis.specs.Synthesis.{driven, driven_subframe, driven_memory, excited}
use Rattle.synthesis.proofs.Samples.{driven-step, driven-last}
use Rattle.state.specs.State.{are_words}
use Rattle.state.proofs.Bounds.{words-from}
use Rattle.output.specs.Output.{filters_after, filters_at}
use Rattle.output.specs.declared.Filters.{Filters}
use Rattle.theorems.proofs.Words.{word_fits, tabulate-fits}

module _ (a : List ℤ) (v : ℕ → ℤ) (memory : List ℤ) where
  newest-fits : (n : ℕ) → SFits w16 (entry (driven a v memory (n + 1)) 0)
  newest-fits n = subst (SFits w16) (sym (ap (λ (l : List ℤ). entry l 0) (driven-step a v memory n))) (word_fits _)

  subframe_fits : AllFit w16 (driven_subframe a v memory)
  unfolding driven_subframe
  subframe_fits = tabulate-fits 60 newest-fits

  memory_fits : AllFit w16 (driven_memory a v memory)
  unfolding last_ten
  memory_fits = subst (AllFit w16) (driven-last a v memory) (tabulate-fits 10 (λ j. subframe_fits.at (59 - j)))

pub memory_words : (on : Bool) (sets inputs : List (List ℤ)) (f : Filters) →
    are_words (filters_at on sets inputs f 4).syn_mem 10 ≡ true
unfolding filters_at filters_after
memory_words on sets inputs f =
    words-from (filters_at on sets inputs f 4).syn_mem 10
    (λ i p. (memory_fits (get_or sets 3 []) (excited (get_or inputs 3 [])) (filters_at on sets inputs f 3).syn_mem).at i)
