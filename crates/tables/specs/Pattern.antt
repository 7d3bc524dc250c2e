-- Pattern tables and their rules (docs/RULES.md, "Patterns"). The theory reads a table as functions, its shape.
--   Shape         a pattern's steps as functions, and its output step
--   rows_of        the steps alone, as rows
--   shape_of       the shape that a table has: entries past the step count are not read
--   table_of       a table by its parts
--   pattern_of     the table that a shape has: entries past the step count are zero
--   pushed        a table with one step more
--   StepRule      the rule for a step, where the steps before it obey theirs
--   ValidShape    a shape obeys the rules
--   ValidPattern  a table obeys the rules
--   Clean         a table as it is handed out
--   zero_pattern   the table of no steps
-- Assumes nothing.
use Rattle.std.specs.Prelude.{ℕ, ◌+◌, ◌<◌, ◌≤◌, ◌≡◌, ◌⊎◌, List, get_or, set, replicate}
use Rattle.tables.specs.Tree.{Tree, Hangs, IsLabel, Rows}
use Rattle.tables.specs.Column.{padded, step_no, step_array}
use Rattle.tables.specs.declared.Pattern.{Pattern}
use Rattle.tables.specs.declared.StepNo.{StepNo}

-- a pattern's steps: a tree, the label and the axis of each (0 child, 1 descendant), and the output step
pub record Shape : Type 0 where
  pub tree : Tree
  pub label : ℕ → ℕ
  pub axis : ℕ → ℕ
  pub output : ℕ

-- the steps of a pattern as rows
abbrev pub rows_of : Shape → Rows
rows_of A = record { tree = A.tree; label = A.label; axis = A.axis }

-- the shape of a table
abbrev pub shape_of : Pattern → Shape
shape_of p = record {
  tree = record { size = p.count; parent = λ s. (get_or p.parent s (step_no 0)).0 };
  label = λ s. get_or p.label s 0;
  axis = λ s. get_or p.axis s 0;
  output = p.output.0;
}

-- the table with these parts
unfoldable pub table_of : ℕ → ℕ → List StepNo → List ℕ → List ℕ → Pattern
table_of n o ps xs ls = record { parent = ps; axis = xs; label = ls; count = n; output = step_no o }

-- the table of a shape
unfoldable pub pattern_of : Shape → Pattern
pattern_of A =
    table_of A.tree.size A.output
    (step_array A.tree.parent A.tree.size) (padded A.axis A.tree.size) (padded A.label A.tree.size)

-- the table of no steps, from which every table that is made is filled in: nothing but zeros
unfoldable pub zero_pattern : Pattern
zero_pattern = table_of 0 0 (replicate 64 (step_no 0)) (replicate 64 0) (replicate 64 0)

-- a table with one step more, after its others
abbrev pub pushed : Pattern → StepNo → ℕ → ℕ → Pattern
pushed p parent axis label = record {
  parent = set p.parent p.count parent;
  axis = set p.axis p.count axis;
  label = set p.label p.count label;
  count = p.count + 1;
  output = p.output;
}

-- the rule for step s, where the steps before it obey theirs
pub record StepRule (A : Shape) (s : ℕ) : Type 0 where
  pub hangs : Hangs A.tree 255 s
  pub axis : (A.axis s ≡ 0) ⊎ (A.axis s ≡ 1)
  pub label : IsLabel (A.label s)

-- a shape obeys the rules: 1 to 64 steps, every step right, the output step one of them
pub record ValidShape (A : Shape) : Type 0 where
  pub some : 0 < A.tree.size
  pub few : A.tree.size ≤ 64
  pub steps : (s : ℕ) → s < A.tree.size → StepRule A s
  pub output : A.output < A.tree.size

-- a pattern obeys the rules
abbrev pub ValidPattern : Pattern → Type 0
ValidPattern p = ValidShape (shape_of p)

-- a pattern is as every pattern is handed out: its arrays are zero past its steps
abbrev pub Clean : Pattern → Type 0
Clean p = pattern_of (shape_of p) ≡ p
