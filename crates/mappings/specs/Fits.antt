-- Which steps of one pattern, B, fit at the steps of another, A, and which of those a step goes to first. Only private functions of containment cite this file:
-- a reader of the public contracts need not read it.
--   RightIn    a step of B may go to a step of A, by its label and the output step
--   FitsIn     a step of B that fits at a step of A
--   FitTable   a table of the steps of B that fit at each step of A
--   Picks      the smallest step of a kind
--   StepsOf    the steps of a pattern that obeys the rules are those of a table
--   ImageAt    a step that may take another, by a table
-- Assumes nothing.
use Rattle.std.specs.Prelude.{ℕ, ◌≤◌, ◌<◌, ◌≡◌, Bool, List, T, get_or, Option, Some, None}
use Rattle.tables.specs.Bits.{bit, Marks}
use Rattle.tables.specs.Tree.{From}
use Rattle.tables.specs.Column.{step_no}
use Rattle.tables.specs.Pattern.{Shape, rows_of, ValidShape}
use Rattle.tables.specs.declared.Pattern.{Pattern}
use Rattle.tables.specs.declared.StepNo.{StepNo}
use Rattle.placing.specs.Placement.{LabelFits, Goes, SendsFrom}

-- step t of B may go to a step of label l, the output step only if `last` says so
abbrev pub RightIn : Shape → ℕ → Bool → ℕ → Type 0
RightIn B l last t = LabelFits (B.label t) l × (t ≡ B.output → T last)

-- step t of B with all steps below it can be sent to steps of A, t to s, and B's output step only to A's
pub record FitsIn (B A : Shape) (s t : ℕ) : Type 0 where
  pub here : t < B.tree.size
  pub by : ℕ → ℕ
  pub sends : SendsFrom B (rows_of A) t s by
  pub output : From B.tree t B.output → by B.output ≡ A.output

-- entry s has the steps of B that fit at step s of A
abbrev pub FitTable : Shape → Shape → List ℕ → Type 0
FitTable B A table = (s : ℕ) → s < A.tree.size → Marks (get_or table s 0) (FitsIn B A s)

-- the smallest step whose number has X; or none, where no number has it
pub data Picks (X : ℕ → Type 0) : Option StepNo → Type 0 where
  picked : (s : StepNo) → X s.0 → ((j : ℕ) → X j → s.0 ≤ j) → Picks X (Some s)
  nothing : ((j : ℕ) → X j → ⊥) → Picks X None

-- A obeys the rules, and its steps hang as those of a table do
pub record StepsOf (A : Shape) (a : Pattern) : Type 0 where
  pub valid : ValidShape A
  pub count : A.tree.size ≡ a.count
  pub parent : (j : ℕ) → A.tree.parent j ≡ (get_or a.parent j (step_no 0)).0
  pub axis : (j : ℕ) → A.axis j ≡ get_or a.axis j 0

-- step j of A may take step t, of this axis, by the table, where the parent of t is at step q
abbrev pub ImageAt : Shape → List ℕ → ℕ → ℕ → ℕ → ℕ → Type 0
ImageAt A fit t axis q j = Goes (rows_of A) axis q j × (bit (get_or fit j 0) t ≡ 1)
