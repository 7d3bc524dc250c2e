-- `rewriting::main_step` meets its contract: it climbs as often as it is told. Assumes nothing.
use Rattle.tables.proofs.Kit.{◌≤◌}
use Rattle.tables.specs.Pattern.{shape_of}
use Rattle.rewriting.proofs.MainClimb.{Climbed}
use Rattle.rewriting.proofs.main_step.Given as goal

abbrev pub invariant-loop-k : goal.invariant-loop-k
invariant-loop-k l = (l._k ≤ l.up) × Climbed (shape_of l.p.table.now) l.s.0 l._k
