-- The lines that `ask` prints, as bytes in ASCII (docs/RULES.md, "The program ask").
--   decimal       a number in decimal digits
--   spaced        numbers, each after one space
--   line          a word, the count of a list, a colon, the list
--   refused_line   the line of a refusal
--   none_line      the line where there is no rewriting
-- Assumes nothing.
use Rattle.std.specs.Prelude.{ℕ, zero, suc, ◌+◌, ◌/◌, ◌%◌, cond, List, [], ◌∷◌, ◌++◌, ltb, length, get_or}
use Rattle.tables.specs.Column.{blocks}

-- the digits of n, the most significant first, k of them at most
unfoldable pub digits : ℕ → ℕ → List ℕ
digits zero n = []
digits (suc k) n = cond (ltb n 10) ((48 + n) ∷ []) (digits k (n / 10) ++ ((48 + n % 10) ∷ []))

-- a number in decimal, with no zero in front: it has no more digits than n + 1
unfoldable pub decimal : ℕ → List ℕ
decimal n = digits (suc n) n

-- a space, and a number in decimal
abbrev pub item : ℕ → List ℕ
item n = 32 ∷ decimal n

-- each number of a list after one space
unfoldable pub spaced : List ℕ → List ℕ
spaced xs = blocks (λ k. item (get_or xs k 0)) (length xs)

-- the word `view`
abbrev pub view_word : List ℕ
view_word = 118 ∷ 105 ∷ 101 ∷ 119 ∷ []

-- the word `query`
abbrev pub query_word : List ℕ
query_word = 113 ∷ 117 ∷ 101 ∷ 114 ∷ 121 ∷ []

-- the word `rewriting`
abbrev pub rewriting_word : List ℕ
rewriting_word = 114 ∷ 101 ∷ 119 ∷ 114 ∷ 105 ∷ 116 ∷ 105 ∷ 110 ∷ 103 ∷ []

-- the word `document`
abbrev pub document_word : List ℕ
document_word = 100 ∷ 111 ∷ 99 ∷ 117 ∷ 109 ∷ 101 ∷ 110 ∷ 116 ∷ []

-- the word `input`
abbrev pub input_word : List ℕ
input_word = 105 ∷ 110 ∷ 112 ∷ 117 ∷ 116 ∷ []

-- the word `refused`
abbrev pub refused_word : List ℕ
refused_word = 114 ∷ 101 ∷ 102 ∷ 117 ∷ 115 ∷ 101 ∷ 100 ∷ []

-- the word `none`
abbrev pub none_word : List ℕ
none_word = 110 ∷ 111 ∷ 110 ∷ 101 ∷ []

-- a word, a space, the count of a list, a colon, each number after one space, the line's end
unfoldable pub line : List ℕ → List ℕ → List ℕ
line w xs = w ++ item (length xs) ++ (58 ∷ []) ++ spaced xs ++ (10 ∷ [])

-- `refused`, the number of a refusal and a word
unfoldable pub refused_line : ℕ → List ℕ → List ℕ
refused_line k w = refused_word ++ item k ++ (32 ∷ []) ++ w ++ (10 ∷ [])

-- `rewriting none`
unfoldable pub none_line : List ℕ
none_line = rewriting_word ++ (32 ∷ []) ++ none_word ++ (10 ∷ [])
