-- Document tables and their rules (docs/RULES.md, "Documents"). Assumes nothing.
use Rattle.std.specs.Prelude.{ℕ, ◌<◌, ◌≤◌, ◌≡◌, List, length, get_or}
use Rattle.tables.specs.Tree.{Hangs, IsLabel, Rows}
use Rattle.tables.specs.declared.Lists.{Lists}

-- a document is two lists, with an entry of each for every node
pub record Document : Type 0 where
  pub parents : List ℕ
  pub labels : List ℕ

-- the document of two lists
abbrev pub document_of : List ℕ → List ℕ → Document
document_of parents labels = record { parents = parents; labels = labels }

-- the document of two lists that are lent
abbrev pub of_lists : Lists → Document
of_lists l = document_of l.parents.now l.labels.now

-- how many nodes a document has
abbrev pub node_count : Document → ℕ
node_count d = length d.parents

-- the nodes as rows: every edge of a document is a child edge
abbrev pub nodes_of : Document → Rows
nodes_of d = record {
  tree = record { size = length d.parents; parent = λ i. get_or d.parents i 0 };
  label = λ i. get_or d.labels i 0;
  axis = λ i. 0;
}

-- the rule for node i, where the nodes before it obey theirs
pub record NodeRule (d : Document) (i : ℕ) : Type 0 where
  pub hangs : Hangs (nodes_of d).tree 65535 i
  pub label : IsLabel (get_or d.labels i 0)

-- a document obeys the rules: 1 to 2,048 nodes, two lists of equal length, every node right
pub record ValidDocument (d : Document) : Type 0 where
  pub some : 0 < node_count d
  pub few : node_count d ≤ 2048
  pub equal : length d.labels ≡ node_count d
  pub nodes : (i : ℕ) → i < node_count d → NodeRule d i
