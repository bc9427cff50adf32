-- The whole output as a definition of the whole input (document 01, "Program `frames`"): the lines of the input, the answer to each from the state that the one before left, and the counts of the numbers. It is one text for each input.
use Rattle.std.specs.Prelude.{true, cond, List, [], ◌∷◌, ◌++◌, ℕ, min, eqb, ltb, length}
use Rattle.state.specs.declared.State.{State}
use Rattle.state.specs.State.{fresh_state}
use Rattle.counts.specs.Counts.{how_many, most, closing}
use Rattle.lines.specs.Replies.{line_number, line_state, line_text}

-- ---- the lines of the input

-- those of the input xs after the characters `line` of one that has not ended: a newline ends it, and what follows the last newline is a line if there is anything
unfoldable pub lines_from : List ℕ → List ℕ → List (List ℕ)
lines_from line [] = cond (ltb 0 (length line)) (line ∷ []) []
lines_from line (b ∷ xs) = cond (eqb b 10) (line ∷ lines_from [] xs) (lines_from (line ++ (b ∷ [])) xs)

-- those of a whole input
abbrev pub lines_of : List ℕ → List (List ℕ)
lines_of input = lines_from [] input

-- ---- their answers, one after the other

-- their text
unfoldable pub text_from : State → List (List ℕ) → List ℕ
text_from s [] = []
text_from s (l ∷ ls) = line_text s l ++ text_from (line_state s l) ls

-- the number of each answer, 0 for samples
unfoldable pub numbers_from : State → List (List ℕ) → List ℕ
numbers_from s [] = []
numbers_from s (l ∷ ls) = line_number s l ∷ numbers_from (line_state s l) ls

-- ---- the whole, from one fresh state with postfilter

-- the text of the answers
abbrev pub answers_to : List ℕ → List ℕ
answers_to input = text_from (fresh_state true) (lines_of input)

-- how many of them are R lines of number n, and for number 0 how many are lines of samples
abbrev pub count_of : List ℕ → ℕ → ℕ
count_of input n = how_many n (numbers_from (fresh_state true) (lines_of input))

-- the count of number n as it is printed, which is kept in 64 bits
abbrev pub printed_count : List ℕ → ℕ → ℕ
printed_count input n = min (count_of input n) most

-- the output: the answers, then the counts in ascending number (document 02, E3)
abbrev pub output : List ℕ → List ℕ
output input = answers_to input ++ closing (printed_count input)
