-- Sending the steps of a pattern to rows (docs/RULES.md, "Placements"). The rows are a document's nodes or another pattern's steps, so that a placement and a
-- mapping are one notion.
--   LabelFits    a step's label fits a row's
--   Takes        a row may take a step of a label
--   Goes         what an axis asks of the rows of a step and of its parent
--   Sends        a function sends all steps
--   SendsFrom    a function sends a step and all below it
--   Reaches      all steps can be sent, a given step to a given row
--   ReachesFrom  a step and all below it can be sent, the step to a given row
-- Assumes nothing.
use Rattle.std.specs.Prelude.{ℕ, zero, suc, ◌<◌, ◌≡◌}
use Rattle.tables.specs.Tree.{Child, Below, From, Rows}
use Rattle.tables.specs.Pattern.{Shape}

-- a step's label fits a row's where the two are equal
pub record LabelFits (step row : ℕ) : Type 0 where
  pub same : row ≡ step

-- row i may take a step of label l
pub record Takes (X : Rows) (l i : ℕ) : Type 0 where
  pub here : i < X.tree.size
  pub fits : LabelFits l (X.label i)

-- a step at row i, its parent at row j: a child step goes along a child edge, a descendant step to a proper descendant over any edges. With strip//frame as
-- the rows, strip at row 0: a descendant step whose parent is at 0 may be at row 1, a child step may not, since the edge to row 1 is a descendant edge
abbrev pub Goes : Rows → ℕ → ℕ → ℕ → Type 0
Goes X zero j i = Child X.tree j i × (X.axis i ≡ 0)
Goes X (suc a) j i = Below X.tree j i

-- f sends every step to a row that may take it, and every step but the first as its axis asks
pub record Sends (A : Shape) (X : Rows) (f : ℕ → ℕ) : Type 0 where
  pub takes : (s : ℕ) → s < A.tree.size → Takes X (A.label s) (f s)
  pub edge : (s q : ℕ) → Child A.tree q s → Goes X (A.axis s) (f q) (f s)

-- f sends step s to row i and all steps below s with it, the axis of s itself not counting
pub record SendsFrom (A : Shape) (X : Rows) (s i : ℕ) (f : ℕ → ℕ) : Type 0 where
  pub at : f s ≡ i
  pub takes : (t : ℕ) → From A.tree s t → Takes X (A.label t) (f t)
  pub edge : (t q : ℕ) → Child A.tree q t → From A.tree s q → Goes X (A.axis t) (f q) (f t)

-- all steps can be sent with step s to row i, where step 0 goes to a row of `First`
pub record Reaches (A : Shape) (X : Rows) (First : ℕ → Type 0) (s i : ℕ) : Type 0 where
  pub by : ℕ → ℕ
  pub sends : Sends A X by
  pub first : First (by 0)
  pub at : by s ≡ i

-- step s can be sent to row i, and what hangs on s to rows below it
pub record ReachesFrom (A : Shape) (X : Rows) (s i : ℕ) : Type 0 where
  pub by : ℕ → ℕ
  pub sends : SendsFrom A X s i by
