-- The working list of the Answers call: two numbers for each node, whose bits are steps (docs/RULES.md, "Answers"). Assumes nothing.
use Rattle.std.specs.Prelude.{ℕ, ◌+◌, ◌*◌, ◌≤◌, ◌<◌, ◌≡◌, List, length, get_or}
use Rattle.tables.specs.Bits.{Marks}
use Rattle.tables.specs.Document.{Document, node_count, nodes_of}
use Rattle.tables.specs.Pattern.{Shape}
use Rattle.placing.specs.Placement.{Reaches, ReachesFrom}

-- node i can hold step s, with places below it for every step that hangs on s, whatever axis leads to s
abbrev pub FitsAt : Shape → Document → ℕ → ℕ → Type 0
FitsAt A d i s = (s < A.tree.size) × ReachesFrom A (nodes_of d) s i

-- node i holds step s in some placement of all steps, which has step 0 at a node of `First`
abbrev pub PlacedAt : Shape → Document → (ℕ → Type 0) → ℕ → ℕ → Type 0
PlacedAt A d First i s = (s < A.tree.size) × Reaches A (nodes_of d) First s i

-- the working list after the call: entries 2i and 2i + 1 of every node i, and all from 2n on as they were
pub record Working (A : Shape) (d : Document) (First : ℕ → Type 0) (before after : List ℕ) : Type 0 where
  pub same_length : length after ≡ length before
  pub fits : (i : ℕ) → i < node_count d → Marks (get_or after (2 * i) 0) (FitsAt A d i)
  pub placed : (i : ℕ) → i < node_count d → Marks (get_or after (2 * i + 1) 0) (PlacedAt A d First i)
  pub rest : (k : ℕ) → 2 * node_count d ≤ k → get_or after k 0 ≡ get_or before k 0
