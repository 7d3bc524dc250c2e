-- `rewriting::cut` meets its contract: step 0 is written first, then the steps before the one looked at. Assumes nothing.
use Rattle.tables.proofs.Kit.{◌-◌, ◌<◌}
use Rattle.tables.specs.Pattern.{shape_of}
use Rattle.tables.proofs.Filling.{Filled}
use Rattle.rewriting.proofs.Cuts.{cut_shape}
use Rattle.rewriting.proofs.cut.Given as goal

abbrev pub invariant-loop-t : goal.invariant-loop-t
invariant-loop-t l = (l.c.0 < l.t) × Filled (cut_shape (shape_of l.q.table.now) l.c.0) (l.t - l.c.0) l.p
