-- Answers of a pattern in a document, and the lists that hold them (docs/RULES.md, "Answers").
--   Begins     where step 0 may go
--   Answer     a node is an answer
--   Started    a node is an answer with step 0 at a start node
--   In         a number stands in a list
--   Ascending  a list is strictly ascending
--   Lists      a list holds exactly the numbers of which a statement holds
--   StartList  a list of start nodes is right
-- Assumes nothing.
use Rattle.std.specs.Prelude.{ℕ, suc, ◌<◌, ◌≡◌, List, length, get_or}
use Rattle.tables.specs.Document.{Document, node_count, nodes_of}
use Rattle.tables.specs.Pattern.{Shape}
use Rattle.placing.specs.Placement.{Reaches}

-- where step 0 may be: at node 0 alone if its axis is child, anywhere if it is descendant
abbrev pub Begins : Shape → ℕ → Type 0
Begins A i = A.axis 0 ≡ 0 → i ≡ 0

-- node i is an answer of A in d: the output step's node in some placement
abbrev pub Answer : Shape → Document → ℕ → Type 0
Answer A d i = Reaches A (nodes_of d) (Begins A) A.output i

-- the same with step 0 at a start node
abbrev pub Started : (ℕ → Type 0) → Shape → Document → ℕ → Type 0
Started Start A d i = Reaches A (nodes_of d) Start A.output i

-- i stands in the list xs
pub record In (xs : List ℕ) (i : ℕ) : Type 0 where
  pub place : ℕ
  pub early : place < length xs
  pub is : get_or xs place 0 ≡ i

-- the list is strictly ascending
abbrev pub Ascending : List ℕ → Type 0
Ascending xs = (k : ℕ) → suc k < length xs → get_or xs k 0 < get_or xs (suc k) 0

-- xs lists the numbers of which P holds, each once, ascending
pub record Lists (P : ℕ → Type 0) (xs : List ℕ) : Type 0 where
  pub ascending : Ascending xs
  pub sound : (i : ℕ) → In xs i → P i
  pub complete : (i : ℕ) → P i → In xs i

-- a start list is strictly ascending node numbers of the document
pub record StartList (d : Document) (xs : List ℕ) : Type 0 where
  pub ascending : Ascending xs
  pub nodes : (k : ℕ) → k < length xs → get_or xs k 0 < node_count d
