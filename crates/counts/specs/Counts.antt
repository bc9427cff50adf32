-- The counts of the numbers that were given (document 01, "Program `frames`"): N, the number in two digits, a space and the count in decimal, for each number seen, in ascending number (document 02, E3).
use Rattle.std.specs.Prelude.{Bool, cond, ◌&&◌, List, [], ◌∷◌, ◌++◌, ℕ, zero, suc, ◌+◌, ◌-◌, ◌/◌, ◌%◌, ◌^◌, min, eqb, ltb, get_or, set}
use Rattle.tables.specs.Constants.{numbers_counted}

-- how many of ns are n
unfoldable pub how_many : ℕ → List ℕ → ℕ
how_many n [] = 0
how_many n (m ∷ ns) = cond (eqb m n) 1 0 + how_many n ns

-- a count is kept in 64 bits: it stays at the greatest
abbrev pub most : ℕ
most = 2 ^ 64 - 1

-- the tally of n, where tallies go by number
abbrev pub tally : List ℕ → ℕ → ℕ
tally tallies n = get_or tallies n 0

-- the tallies, by number, with one more of n
abbrev pub counted : List ℕ → ℕ → List ℕ
counted tallies n = set tallies n (min (tally tallies n + 1) most)

-- the decimal digits of n, as few as hold it, of at most k
unfoldable pub decimal_in : ℕ → ℕ → List ℕ
decimal_in zero n = []
decimal_in (suc k) n = cond (ltb n 10) [] (decimal_in k (n / 10)) ++ ((48 + n % 10) ∷ [])

-- a count has at most twenty
abbrev pub decimal : ℕ → List ℕ
decimal n = decimal_in 20 n

-- the line of a number
unfoldable pub count_line : ℕ → ℕ → List ℕ
count_line n count = 78 ∷ (48 + n / 10) ∷ (48 + n % 10) ∷ 32 ∷ (decimal count ++ (10 ∷ []))

-- the lines of the numbers ns, where `count` gives the count of each
unfoldable pub count_lines : (ℕ → ℕ) → List ℕ → List ℕ
count_lines count [] = []
count_lines count (n ∷ ns) = count_line n (count n) ++ count_lines count ns

-- a number from 1 on that was seen: 0 is counted for samples, and has no line
abbrev pub is_seen : (ℕ → ℕ) → ℕ → Bool
is_seen count n = ltb 0 n && ltb 0 (count n)

-- those below n, from the least on
unfoldable pub seen_below : (ℕ → ℕ) → ℕ → List ℕ
seen_below count zero = []
seen_below count (suc n) = seen_below count n ++ cond (is_seen count n) (n ∷ []) []

-- the closing lines: those of the numbers 1 to 11 that were seen, from the least on
abbrev pub closing : (ℕ → ℕ) → List ℕ
closing count = count_lines count (seen_below count numbers_counted)
