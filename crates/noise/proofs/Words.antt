-- Laws of the noise word some samples on.
use Rattle.std.proofs.Common.{◌≡◌, ℕ, zero, suc, ◌+◌, sym, refl, ap, ◌∙◌, add-zero, add-suc, add-one}
use Rattle.noise.specs.Noise.{next_word_of, word_after}

pub word-after-zero : (w : ℕ) → word_after w 0 ≡ w
unfolding word_after
word-after-zero w = refl

pub word-after-step : (w n : ℕ) → word_after w (n + 1) ≡ next_word_of (word_after w n)
unfolding word_after
word-after-step w n = rw add-one

pub word-after-add : (w a b : ℕ) → word_after (word_after w a) b ≡ word_after w (a + b)
unfolding word_after
word-after-add w a zero = ap (word_after w) (sym (add-zero a))
word-after-add w a (suc b) = ap next_word_of (word-after-add w a b) ∙ ap (word_after w) (sym (add-suc a b))
