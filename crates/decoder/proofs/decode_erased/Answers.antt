use Rattle.std.proofs.Common.{rules, arith, ◌≡◌, ◌∙◌, sym, ap, subst, true, Fits, pos, w8, w32, to_z, of_z, to_z-of_z}
use lib.Dec.{T}
use lib.IntN.{nat_abs}
use lib.Signed.{non_neg}
use Rattle.integers.specs.Signed.{read_back, widen}
use Rattle.integers.specs.Expression.{is_arg, is-cast, need_cast}
use Rattle.stability.specs.Stability.{check_or_previous}
use Rattle.voicing.specs.Voicing.{voicing_of}
use Rattle.erasure.specs.Erasure.{erased_excitation}
use Rattle.state.specs.State.{in_bounds}
use Rattle.state.specs.declared.State.{State}
use Rattle.state.proofs.Bounds.{signal_narrowed}
use Rattle.decoder.specs.Frame.{plain_inputs, frame_samples, frame_state, erased_signal, erased_samples, erased_state}
use Rattle.decoder.specs.Decoder.{acceptance}
use Rattle.decoder.proofs.Fields.{lag2-fits, taps-fits, gain-fits, lag2-natural}
use Rattle.decoder.proofs.decode_erased.Goals as goal

-- the lag of subframe 2, as the code reads it
lag2-is : (s : State) → in_bounds s ≡ true → to_z w32 (of_z w32 s.last_lag2) ≡ s.last_lag2
lag2-is s h = to_z-of_z {w = w32} (widen (lag2-fits s h) tt)

pub overflow_cast-given : goal.overflow_cast-given
overflow_cast-given c =
    let s = c.args.bounded.state in
    let h = c.args.bounded.within in
    let n = lag2-natural s h in
    let fits : Fits w8 (nat_abs s.last_lag2) = record { fits = omega (arith, n.1) } in
    subst (λ z. T (non_neg z) × Fits w8 (nat_abs z)) (sym (lag2-is s h)) (n.0, fits)

pub overflow_cast-given-2 : goal.overflow_cast-given-2
overflow_cast-given-2 c =
    let f = taps-fits c.args.bounded.state c.args.bounded.within in need_cast (is_arg (widen {w' = w32} f tt)) f

pub overflow_cast-given-3 : goal.overflow_cast-given-3
overflow_cast-given-3 c =
    let f = gain-fits c.args.bounded.state c.args.bounded.within in need_cast (is_arg (widen {w' = w32} f tt)) f

pub returns : goal.returns
unfolding erased_state erased_samples
returns c =
    let s = c.args.bounded.state in
    let h = c.args.bounded.within in
    let checked = c.lsp_check_or_previous-checked.ensures ∙ ap (λ l. check_or_previous (pos 512) l s.prev_lsp) c.lsp_extrapolate.ensures in
    let class = c.classify_erasure_voicing-class.ensures ∙ ap (voicing_of s.pcm_hist) (ap nat_abs (lag2-is s h) ∙ (lag2-natural s h).2) in
    let silent = c.frame_signal.ensures ∙ signal_narrowed s (search rules) h in
    let t = taps-fits s h in
    let g = gain-fits s h in
    let taps = (is-cast (is_arg (widen {w' = w32} t tt)) t).is in
    let gain = (is-cast (is_arg (widen {w' = w32} g tt)) g).is in
    let signal : c.erased_excitation-signal.result ≡ erased_signal s =
    c.erased_excitation-signal.ensures ∙ (λ i. erased_excitation (class i) (taps i) (gain i) (c.next_run-run.ensures i) (silent i))
    in
    let inputs = c.plain_inputs.ensures ∙ ap plain_inputs signal in
    record {
      answer = c.finish_frame.ensures.answer ∙ (λ i. acceptance (checked i).outcome (frame_state s (checked i).lsps (inputs i) (signal i) record {
        last_lag = read_back w32 s.last_lag (search rules) i;
        last_lag2 = lag2-is s h i;
        last_taps_sum_q15 = read_back w32 s.last_taps_sum_q15 (search rules) i;
        last_gain_unvoiced = read_back w32 s.last_gain_unvoiced (search rules) i;
        erased_run = c.next_run-run.ensures i;
      }));
      samples = c.finish_frame.ensures.samples ∙ (λ i. frame_samples s (checked i).lsps (inputs i));
    }
