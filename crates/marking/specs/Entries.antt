-- The entries of the working list and of the answer list, node by node. Only private functions of the Answers call cite this file: a reader of the public
-- contracts need not read it.
--   first, second  the two entries of each node in the working list
--   HandedUp         one node's turn in the first pass
--   Fitted         what the first pass leaves
--   Marked         a node is marked as a start
--   Noted          one node's turn in the answer list
-- Assumes nothing.
use Rattle.std.specs.Prelude.{ℕ, ◌+◌, ◌*◌, ◌≤◌, ◌<◌, ◌≡◌, List, length, get_or, set}
use Rattle.tables.specs.Bits.{bit, Marks}
use Rattle.tables.specs.Document.{Document, node_count, nodes_of}
use Rattle.tables.specs.Pattern.{Shape}
use Rattle.placing.specs.Placement.{ReachesFrom}
use Rattle.plan.specs.Rising.{Turned}

-- the first entry of each node
abbrev pub first : List ℕ → ℕ → ℕ
first work i = get_or work (2 * i) 0

-- the second entry of each node
abbrev pub second : List ℕ → ℕ → ℕ
second work i = get_or work (2 * i + 1) 0

-- node i gets its first entry and the seed, and its parent p gathers what fits at i and below
pub record HandedUp (before : List ℕ) (i p fit below seed : ℕ) (after : List ℕ) : Type 0 where
  pub same_length : length after ≡ length before
  pub turn : Turned i p fit fit below (first before) (second before) (first after) (second after)
  pub seeded : second after i ≡ seed
  pub later : (q : ℕ) → 2 * i + 2 ≤ q → get_or after q 0 ≡ get_or before q 0

-- every node has in its first entry the steps that fit there with all steps below them, and the seed in the second
pub record Fitted (A : Shape) (d : Document) (seed : ℕ) (before work : List ℕ) : Type 0 where
  pub same_length : length work ≡ length before
  pub fits : (i : ℕ) → i < node_count d → Marks (first work i) (λ s. (s < A.tree.size) × ReachesFrom A (nodes_of d) s i)
  pub seeded : (i : ℕ) → i < node_count d → second work i ≡ seed
  pub rest : (q : ℕ) → 2 * node_count d ≤ q → get_or work q 0 ≡ get_or before q 0

-- node i is marked as a start: its second entry is 1
abbrev pub Marked : List ℕ → ℕ → Type 0
Marked work i = get_or work (2 * i + 1) 0 ≡ 1

-- node i is put at place c of the list where it is an answer, and counted
pub record Noted (whole output i c : ℕ) (before : List ℕ) (r : ℕ) (after : List ℕ) : Type 0 where
  pub put : bit whole output ≡ 1 → (r ≡ c + 1) × (after ≡ set before c i)
  pub skip : (bit whole output ≡ 1 → ⊥) → (r ≡ c) × (after ≡ before)
