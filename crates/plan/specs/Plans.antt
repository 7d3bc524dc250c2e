-- All that is looked up of a pattern, together: with a table of parents, or with groups. Only private functions of the calls cite this file: a reader of the
-- public contracts need not read it. Assumes nothing.
use Rattle.tables.specs.Tree.{Child}
use Rattle.tables.specs.Pattern.{Shape}
use Rattle.plan.specs.Steps.{Labelled, SetsOf}
use Rattle.plan.specs.Leading.{ToParent, Spread, Grouped}
use Rattle.plan.specs.declared.{UpwardPlan.{UpwardPlan}, GroupedPlan.{GroupedPlan}, DownwardPlan.{DownwardPlan}}

-- the labels, the sets and the table of parents are those of A
pub record TablePlan (A : Shape) (plan : UpwardPlan) : Type 0 where
  pub labels : Labelled A plan.labels
  pub sets_of : SetsOf A plan.sets
  pub up : Spread (ToParent A) A.tree.size plan.parents.entries

-- the labels, the sets and the forks are those of A
pub record GroupPlan (A : Shape) (plan : GroupedPlan) : Type 0 where
  pub labels : Labelled A plan.labels
  pub sets_of : SetsOf A plan.sets
  pub groups : Grouped A plan.forks.count plan.forks.list

-- the sets and the table of child steps are those of A
pub record DownPlan (A : Shape) (plan : DownwardPlan) : Type 0 where
  pub sets_of : SetsOf A plan.sets
  pub down : Spread (Child A.tree) A.tree.size plan.children.entries
