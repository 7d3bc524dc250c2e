-- `containment::witness::descendants_before` meets its contract: d counts the descendant steps looked at. Assumes nothing.
use Rattle.tables.proofs.Kit.{◌≡◌}
use Rattle.tables.specs.Pattern.{shape_of}
use Rattle.containment.specs.Witness.{descendants}
use Rattle.containment.proofs.witness.descendants_before.Given as goal

abbrev pub invariant-loop-axis : goal.invariant-loop-axis
invariant-loop-axis l = l.d ≡ descendants (shape_of l.a.table.now) l.axis-index
