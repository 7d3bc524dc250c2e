-- `tables::table::hangs` meets its contract: the loop is the climb of Climbs. Assumes nothing.
use Rattle.tables.proofs.Hanging.{Climbs}
use Rattle.tables.proofs.table.hangs.Given as goal

abbrev pub invariant-loop-a : goal.invariant-loop-a
invariant-loop-a g l = Climbs (g.R.Table.rows l.rows).tree l.i l.a

abbrev pub decreases-loop-a : goal.decreases-loop-a
decreases-loop-a g l = l.a
