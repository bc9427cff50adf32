-- The samples of a frame (document 01, "Synthesis", "Formant, tilt, gain" and "Frame"; the second half of the Rust's decode_params and decode_erased): for each subframe the synthesis and, with the postfilter on, formant, tilt and gain.
use Rattle.std.specs.Prelude.{Bool, cond, List, [], ◌++◌, ℕ, zero, suc, eqb, ℤ, get_or, length}
use Rattle.tables.specs.Constants.{subframes_per_frame, frame_size}
use Rattle.synthesis.specs.Synthesis.{synthesised, memory_after}
use Rattle.postfilter.specs.Postfilter.{filtered, postfilter_after}
use Rattle.output.specs.declared.Filters.{Filters}

-- ---- a subframe

-- The postfilter on or off, the coefficients a, the input x of the synthesis, and the memories f.
module _ (on : Bool) (a x : List ℤ) (f : Filters) where
  abbrev pub synthesis_of : List ℤ
  synthesis_of = synthesised a x f.syn_mem

  -- its sixty samples: off, the synthesis output is the sample
  unfoldable pub subframe_output : List ℤ
  subframe_output = cond on (filtered f.pf a synthesis_of) synthesis_of

  -- the memories after it: off, that of formant, tilt and gain keeps its values
  unfoldable pub filters_after : Filters
  filters_after = record {
    syn_mem = memory_after a x f.syn_mem;
    pf = cond on (postfilter_after f.pf a synthesis_of) f.pf;
  }

-- ---- a frame: a set of coefficients and an input for each subframe, and the memories before it

module _ (on : Bool) (sets inputs : List (List ℤ)) (f : Filters) where
  -- the memories before subframe k
  unfoldable pub filters_at : ℕ → Filters
  filters_at zero = f
  filters_at (suc k) = filters_after on (get_or sets k []) (get_or inputs k []) (filters_at k)

  -- the samples of the first k subframes
  unfoldable pub output_to : ℕ → List ℤ
  output_to zero = []
  output_to (suc k) = output_to k ++ subframe_output on (get_or sets k []) (get_or inputs k []) (filters_at k)

  -- all 240
  abbrev pub frame_output : List ℤ
  frame_output = output_to subframes_per_frame

  -- the memories after it
  abbrev pub frame_filters : Filters
  frame_filters = filters_at subframes_per_frame

  -- lent samples that are not 240 stay as they are, and so do the memories; the decoder lends none such
  abbrev pub output_in : List ℤ → List ℤ
  output_in samples = cond (eqb (length samples) frame_size) frame_output samples

  abbrev pub filters_in : List ℤ → Filters
  filters_in samples = cond (eqb (length samples) frame_size) frame_filters f
