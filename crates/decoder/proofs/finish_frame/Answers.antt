use Rattle.std.proofs.Common.{rules, ◌≡◌, ◌∙◌, ap, drop}
use Rattle.std.specs.Int.{w32}
use Rattle.integers.specs.Signed.{read_back}
use Rattle.state.proofs.Bounds.{memory_narrowed}
use Rattle.output.specs.Output.{frame_output, frame_filters}
use Rattle.output.specs.declared.Filters.{Filters}
use Rattle.output.proofs.Frames.{filters_in_lem, output_in_lem}
use Rattle.decoder.specs.Frame.{frame_samples, filters_last, frame_state}
use Rattle.decoder.specs.Decoder.{acceptance}
use Rattle.decoder.proofs.finish_frame.Goals as goal

pub returns : goal.returns
unfolding frame_state
returns c =
    let a = c.args in
    let g = a.bounded.state in
    let sets = c.frame_lpc_q13-sets in
    let mem = c.narrow_memory-syn_mem.ensures ∙ memory_narrowed g (search rules) a.bounded.within in
    let before : Filters = record { syn_mem = c.narrow_memory-syn_mem.result; pf = g.pf } in
    let out = c.output_frame-f in
    let samples : out.new.samples ≡ frame_samples g a.checked.lsps a.inputs =
    out.ensures.samples
    ∙ output_in_lem g.postfilter sets.result a.inputs before a.samples.now c.told-samples
    ∙ (λ i. frame_output g.postfilter (sets.ensures i) a.inputs record { syn_mem = mem i; pf = g.pf })
    in
    let filters : out.result ≡ filters_last g a.checked.lsps a.inputs =
    out.ensures.memories
    ∙ filters_in_lem g.postfilter sets.result a.inputs before a.samples.now c.told-samples
    ∙ (λ i. frame_filters g.postfilter (sets.ensures i) a.inputs record { syn_mem = mem i; pf = g.pf })
    in
    record {
      answer = λ i. acceptance a.checked.outcome record {
        prev_lsp = a.checked.lsps;
        exc_hist = c.history_after-exc_hist.ensures i;
        syn_mem = (c.widen_memory-syn_mem.ensures ∙ (λ j. (filters j).syn_mem)) i;
        pf = (filters i).pf;
        last_lag = read_back w32 a.last.last_lag (search rules) i;
        last_lag2 = read_back w32 a.last.last_lag2 (search rules) i;
        last_taps_sum_q15 = read_back w32 a.last.last_taps_sum_q15 (search rules) i;
        last_gain_unvoiced = read_back w32 a.last.last_gain_unvoiced (search rules) i;
        pcm_hist = (c.pcm_history-pcm_hist.ensures ∙ ap (drop 120) samples) i;
        erased_run = a.last.erased_run;
        postfilter = g.postfilter;
      };
      samples = samples;
    }
