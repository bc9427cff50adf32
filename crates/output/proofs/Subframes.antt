-- The output step of a subframe, with the postfilter off and on.
use mathlib.Core.Path.{◌≡◌}
use mathlib.Core.Bool.{Bool, true, false, not}
use mathlib.Core.List.{List}
use lib.ListN.{length}
use lib.IntN.{ℤ}
use Rattle.integers.specs.Natural.{cond_elim}
use Rattle.integers.specs.Truth.{choice-off, choice_on}
use Rattle.integers.specs.Fill.{tabulate-length}
use Rattle.synthesis.specs.Synthesis.{synthesised, memory_after, driven_subframe}
use Rattle.postfilter.specs.Postfilter.{filtered, postfilter_after, gained}
use Rattle.postfilter.specs.declared.Postfilter.{Postfilter}
use Rattle.output.specs.Output.{synthesis_of, subframe_output, filters_after}
use Rattle.output.specs.declared.Filters.{Filters}

module _ (on : Bool) (a x : List ℤ) (f : Filters) where
  -- ---- its samples

  pub output-off : not on ≡ true → synthesis_of on a x f ≡ subframe_output on a x f
  unfolding subframe_output
  output-off h = choice-off on (filtered f.pf a (synthesis_of on a x f)) (synthesis_of on a x f) h

  pub output_on : not on ≡ false → filtered f.pf a (synthesis_of on a x f) ≡ subframe_output on a x f
  unfolding subframe_output
  output_on h = choice_on on (filtered f.pf a (synthesis_of on a x f)) (synthesis_of on a x f) h

  -- ---- the memories after it

  pub memories_off : not on ≡ true → record { syn_mem = memory_after a x f.syn_mem; pf = f.pf } ≡ filters_after on a x f
  unfolding filters_after
  memories_off h = λ i. record {
    syn_mem = memory_after a x f.syn_mem;
    pf = choice-off on (postfilter_after f.pf a (synthesis_of on a x f)) f.pf h i;
  }

  pub memories_on : not on ≡ false → let passed = postfilter_after f.pf a (synthesis_of on a x f) in
      record { syn_mem = memory_after a x f.syn_mem; pf = passed } ≡ filters_after on a x f
  unfolding filters_after
  memories_on h = λ i. record {
    syn_mem = memory_after a x f.syn_mem;
    pf = choice_on on (postfilter_after f.pf a (synthesis_of on a x f)) f.pf h i;
  }

-- ---- it has sixty samples

synthesised-length : (a x memory : List ℤ) → length (synthesised a x memory) ≡ 60
unfolding driven_subframe
synthesised-length a x memory = tabulate-length _ 60

gained-length : (t g : ℤ) (z : List ℤ) → length (gained t g z) ≡ 60
unfolding gained
gained-length t g z = tabulate-length _ 60

filtered-length : (m : Postfilter) (a y : List ℤ) → length (filtered m a y) ≡ 60
unfolding filtered
filtered-length m a y = gained-length _ _ _

pub output-length : (on : Bool) (a x : List ℤ) (f : Filters) → length (subframe_output on a x f) ≡ 60
unfolding subframe_output
output-length on a x f =
    let y = synthesis_of on a x f in
    cond_elim on (filtered f.pf a y) y (λ l. length l ≡ 60)
    (λ t. filtered-length f.pf a y) (λ t. synthesised-length a x f.syn_mem)
