-- Lists that are written block by block or entry by entry, arrays of 64 entries of which only the first are in use, and the two kinds of number
-- (docs/RULES.md, "Tables"). Assumes nothing.
use Rattle.std.specs.Prelude.{ℕ, zero, suc, List, [], ◌∷◌, ◌++◌, map, drop, replicate}
use Rattle.tables.specs.declared.StepNo.{StepNo}
use Rattle.tables.specs.declared.NodeNo.{NodeNo}

-- the lists b 0, b 1 and so on, n of them, one after another
unfoldable pub blocks : (ℕ → List ℕ) → ℕ → List ℕ
blocks b zero = []
blocks b (suc n) = blocks b n ++ b n

-- the list of f 0, f 1 and so on, n entries in all
abbrev pub column : (ℕ → ℕ) → ℕ → List ℕ
column f n = blocks (λ k. f k ∷ []) n

-- an array of 64 entries: the first n are those of f, the others are zero
abbrev pub padded : (ℕ → ℕ) → ℕ → List ℕ
padded f n = column f n ++ drop n (replicate 64 0)

-- the step of a number, and the node of a number
abbrev pub step_no : ℕ → StepNo
step_no s = record { 0 = s }

abbrev pub node_no : ℕ → NodeNo
node_no i = record { 0 = i }

-- an array of 64 steps: the first n are those of f, the others are zero
unfoldable pub step_array : (ℕ → ℕ) → ℕ → List StepNo
step_array f n = map step_no (padded f n)

-- the numbers of steps, without their kind
abbrev pub bare_numbers_of : List StepNo → List ℕ
bare_numbers_of steps = map (λ s. s.0) steps
