-- The program's calls, piece by piece, give the whole output (document 01, "Program `frames`"), however the input is cut into pieces; the tallies that it answers are the counts; and these come in ascending number. proofs/Whole.antt proves all three, proofs/Values.antt the short case.
use Rattle.std.specs.Prelude.{List, [], ◌∷◌, ◌++◌, ◌≡◌, ℕ, zero, suc, length, drop}
use Rattle.counts.specs.Counts.{tally, closing}
use Rattle.counts.specs.Ascending.{AscendingLines}
use Rattle.whole.specs.Output.{answers_to, printed_count, output}
use Rattle.lines.specs.Stream.{fresh_stream, progress_of, finished, printed_tallies}
use Rattle.lines.specs.declared.Stream.{Stream}
use Rattle.lines.specs.declared.Progress.{Progress}

-- what a call leaves to be written
abbrev pub written : Progress → List ℕ
written f = f.text.items

-- n calls of `feed`, each for what the one before left of the piece: what is written, and what is carried
unfoldable pub piece_text : ℕ → Stream → List ℕ → List ℕ
piece_text zero r xs = []
piece_text (suc n) r xs = let f = progress_of r xs in written f ++ piece_text n f.stream (drop f.used xs)

unfoldable pub piece_stream : ℕ → Stream → List ℕ → Stream
piece_stream zero r xs = r
piece_stream (suc n) r xs = let f = progress_of r xs in piece_stream n f.stream (drop f.used xs)

-- piece after piece, each with as many calls as it has bytes, which is enough: a call takes one at the least
unfoldable pub pieces_text : Stream → List (List ℕ) → List ℕ
pieces_text r [] = []
pieces_text r (p ∷ ps) = piece_text (length p) r p ++ pieces_text (piece_stream (length p) r p) ps

unfoldable pub pieces_stream : Stream → List (List ℕ) → Stream
pieces_stream r [] = r
pieces_stream r (p ∷ ps) = pieces_stream (piece_stream (length p) r p) ps

-- the input that they are pieces of
unfoldable pub joined : List (List ℕ) → List ℕ
joined [] = []
joined (p ∷ ps) = p ++ joined ps

-- after them the line that no newline ended
abbrev pub last_progress : List (List ℕ) → Progress
last_progress ps = finished (pieces_stream fresh_stream ps)

-- what `closing_lines` leaves to be written of its tallies
abbrev pub written_counts : List ℕ → List ℕ
written_counts tallies = closing (tally tallies)

-- the text of the pieces, of `finish` and of its tallies is the output for the input (document 02, E3)
abbrev pub OutputOfPieces : Type 0
OutputOfPieces =
    (ps : List (List ℕ)) → pieces_text fresh_stream ps ++ (written (last_progress ps) ++ written_counts (last_progress ps).stream.tallies) ≡ output (joined ps)

-- the tallies that the program answers are the counts of that output
abbrev pub PrintedCounts : Type 0
PrintedCounts = (input : List ℕ) (n : ℕ) → tally (printed_tallies input) n ≡ printed_count input n

-- after the answers come the counts in ascending number: each number that was given has one line, and no other has
abbrev pub OutputAscends : Type 0
OutputAscends = (input : List ℕ) → (counts : List ℕ) × (output input ≡ answers_to input ++ counts) × AscendingLines (printed_count input) counts

-- document 01's whole case: the lines `00`, `09` and an empty one
abbrev pub short_case : List ℕ
short_case = 48 ∷ 48 ∷ 10 ∷ 48 ∷ 57 ∷ 10 ∷ 10 ∷ []

-- it ends with N03 1 and then N04 1 (document 02, E3)
abbrev pub ShortCase : Type 0
ShortCase = output short_case ≡ answers_to short_case ++ (78 ∷ 48 ∷ 51 ∷ 32 ∷ 49 ∷ 10 ∷ 78 ∷ 48 ∷ 52 ∷ 32 ∷ 49 ∷ 10 ∷ [])
