use Rattle.std.proofs.Common.{◌≡◌, pos}
use Rattle.adaptive.specs.Adaptive.{limited_lag}
use Rattle.erasure.specs.Erasure.{replay_to}
use Rattle.erasure.proofs.Frames.{turns}
use Rattle.erasure.proofs.replay_frame.Given as goal

abbrev pub invariant-loop-s : goal.invariant-loop-s
invariant-loop-s l = l.signal ≡ turns (replay_to (limited_lag (pos l.fn.lag)) l.fn.gain) l.fn.signal l.s-index
