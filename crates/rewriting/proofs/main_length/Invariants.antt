-- `rewriting::main_length` meets its contract: it counts the steps of a climb. Assumes nothing.
use Rattle.tables.proofs.Kit.{◌-◌, ◌≤◌}
use Rattle.tables.specs.Pattern.{shape_of}
use Rattle.rewriting.proofs.MainClimb.{Climbed}
use Rattle.rewriting.proofs.main_length.Given as goal

abbrev pub invariant-loop-s : goal.invariant-loop-s
invariant-loop-s l = (1 ≤ l.k) × Climbed (shape_of l.p.table.now) l.s.0 (l.k - 1)

abbrev pub decreases-loop-s : goal.decreases-loop-s
decreases-loop-s l = l.s.0
