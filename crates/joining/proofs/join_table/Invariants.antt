-- `joining::join_table` meets its contract: the steps before the one looked at are written, in three loops, one for each part of the join. Assumes nothing.
use Rattle.tables.proofs.Kit.{◌+◌, ◌-◌, ◌≤◌, ◌<◌}
use Rattle.tables.specs.Pattern.{shape_of}
use Rattle.tables.proofs.Filling.{Filled}
use Rattle.joining.specs.Join.{join_shape}
use Rattle.joining.proofs.join_table.Given as goal

abbrev pub invariant-loop-s : goal.invariant-loop-s
invariant-loop-s l = (l.s ≤ l.last + 1) × Filled (join_shape (shape_of l.v) (shape_of l.e)) l.s l.p

abbrev pub invariant-loop-t : goal.invariant-loop-t
invariant-loop-t l = (1 ≤ l.t) × Filled (join_shape (shape_of l.v) (shape_of l.e)) (l.last + l.t) l.p

abbrev pub invariant-loop-s-2 : goal.invariant-loop-s-2
invariant-loop-s-2 l = (l.last < l.s) × Filled (join_shape (shape_of l.v) (shape_of l.e)) (l.s + (l.e.count - 1)) l.p
