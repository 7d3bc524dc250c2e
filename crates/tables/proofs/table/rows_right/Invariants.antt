-- `tables::table::rows_right` meets its contract: every row before the one looked at obeys its rule. Assumes nothing.
use Rattle.tables.proofs.Kit.{ℕ, ◌-◌, ◌≤◌, ◌<◌}
use Rattle.tables.specs.inner.Rule.{RowRule}
use Rattle.tables.proofs.table.rows_right.Given as goal

abbrev pub invariant-loop-i : goal.invariant-loop-i
invariant-loop-i g l = (l.i ≤ l.n) × ((k : ℕ) → k < l.i → RowRule (g.R.Table.rows l.rows) l.root k)

abbrev pub decreases-loop-i : goal.decreases-loop-i
decreases-loop-i g l = l.n - l.i
