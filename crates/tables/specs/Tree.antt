-- Rows that hang on rows: what documents and patterns have in common (docs/RULES.md, "Tables"). Row numbers are nodes in a document, steps in a pattern.
--   Tree    how many rows, and the parent of each
--   Child   a later row and its parent
--   Below   a row and its proper descendant
--   From    a row and itself or its proper descendant
--   Hangs   the rule for a row's parent, where the rows before it hang right
--   IsLabel  a label's range
--   Rows    a tree with a label on each row and an axis on the edge above it
-- Assumes nothing.
use Rattle.std.specs.Prelude.{ℕ, zero, suc, ◌<◌, ◌≤◌, ◌≡◌, ◌⊎◌}

-- a tree is a number of rows and the parent of each; row 0's parent is a mark and is never followed
pub record Tree : Type 0 where
  pub size : ℕ
  pub parent : ℕ → ℕ

-- row i is not the first, and its parent is a
pub record Child (T : Tree) (a i : ℕ) : Type 0 where
  pub late : 0 < i
  pub here : i < T.size
  pub up : T.parent i ≡ a

-- row i is a proper descendant of row a: a child of a, or a child of a proper descendant of a
pub data Below (T : Tree) : ℕ → ℕ → Type 0 where
  child : {a i : ℕ} → Child T a i → Below T a i
  under : {a m i : ℕ} → Child T m i → Below T a m → Below T a i

-- row i is a, or a proper descendant of a
abbrev pub From : Tree → ℕ → ℕ → Type 0
From T a i = (a ≡ i) ⊎ Below T a i

-- row i hangs right, where the rows before it do: row 0 on the mark `root`, a later row on the row just before it or on an ancestor of that row
abbrev pub Hangs : Tree → ℕ → ℕ → Type 0
Hangs T root zero = T.parent 0 ≡ root
Hangs T root (suc i) = From T (T.parent (suc i)) i

-- a label is 1 to 65535
pub record IsLabel (l : ℕ) : Type 0 where
  pub least : 1 ≤ l
  pub most : l ≤ 65535

-- rows with a label each, and on the edge above each an axis: 0 child, 1 descendant
pub record Rows : Type 0 where
  pub tree : Tree
  pub label : ℕ → ℕ
  pub axis : ℕ → ℕ
