-- The rule for a row of either kind of table. Assumes nothing.
use Rattle.std.specs.Prelude.{ℕ, ◌≡◌, ◌⊎◌}
use Rattle.tables.specs.Tree.{Hangs, IsLabel, Rows}

-- the rule for row i, where the rows before it obey theirs and row 0 hangs on the mark `root`
pub record RowRule (R : Rows) (root i : ℕ) : Type 0 where
  pub hangs : Hangs R.tree root i
  pub axis : (R.axis i ≡ 0) ⊎ (R.axis i ≡ 1)
  pub label : IsLabel (R.label i)
