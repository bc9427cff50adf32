use Rattle.std.proofs.Common.{rules, ◌≡◌, ◌∙◌, ap, cond, get_or, [], pos, w32}
use Rattle.integers.specs.Signed.{back}
use Rattle.excitation.specs.Excitation.{in_turn, tap_sum_of, unvoiced_gain}
use Rattle.excitation.specs.declared.Subframe.{Subframe}
use Rattle.excitation.specs.declared.Subframe.TheVariants.{Two, Three}
use Rattle.record.specs.Record.{block_of}
use Rattle.record.specs.declared.Block.{Block}
use Rattle.state.proofs.Bounds.{signal_narrowed}
use Rattle.decoder.specs.Frame.{plain_inputs, pitch_inputs, frame_samples, frame_state, received_to, received_signal, received_inputs, received_samples, received_state}
use Rattle.decoder.specs.Decoder.{acceptance}
use Rattle.decoder.proofs.decode_received.Goals as goal

pub returns : goal.returns
unfolding received_state received_samples
returns c =
    let s = c.args.bounded.state in
    let b : Subframe → Block = block_of c.args.rate c.args.fields.now in
    let blocks = c.read_blocks-blocks.ensures in
    let checked = c.lsp_check_or_previous-checked.ensures in
    let silent = c.frame_signal.ensures ∙ signal_narrowed s (search rules) c.args.bounded.within in
    let signal : c.received_signal-signal.result ≡ received_signal s c.args.rate c.args.fields.now =
    c.received_signal-signal.ensures b blocks ∙ ap (in_turn (λ x k. received_to (b k) x k)) silent
    in
    let inputs : c.received_inputs-inputs.result ≡ received_inputs s c.args.rate c.args.fields.now =
    c.received_inputs-inputs.ensures b blocks ∙ (λ i. cond s.postfilter (pitch_inputs c.args.rate (λ k. (b k).base_lag) (signal i)) (plain_inputs (signal i)))
    in
    let none : Block = record { base_lag = pos 0; lag = pos 0; taps = []; gain_index = 0; fixed = [] } in
    let second : get_or c.read_blocks-blocks.result 2 none ≡ b Two = ap (λ l. get_or l 2 none) blocks in
    let third : get_or c.read_blocks-blocks.result 3 none ≡ b Three = ap (λ l. get_or l 3 none) blocks in
    record {
      answer = c.finish_frame.ensures.answer ∙ (λ i. acceptance (checked i).outcome (frame_state s (checked i).lsps (inputs i) (signal i) record {
        last_lag = back w32 (search rules) (λ j. (third j).lag) i;
        last_lag2 = back w32 (search rules) (λ j. (second j).lag) i;
        last_taps_sum_q15 = back w32 c.tap_sum.type_inv (c.tap_sum.ensures ∙ (λ j. tap_sum_of (third j).taps)) i;
        last_gain_unvoiced = back w32 c.unvoiced_gain.type_inv (c.unvoiced_gain.ensures ∙ (λ j. pos (unvoiced_gain (second j).gain_index (third j).gain_index))) i;
        erased_run = 0;
      }));
      samples = c.finish_frame.ensures.samples ∙ (λ i. frame_samples s (checked i).lsps (inputs i));
    }
