-- `Forks::reached` meets its contract. The loop's invariant: `x` has what the entries before this one give. Assumes nothing.
use Rattle.tables.specs.Bits.{Marks}
use Rattle.plan.specs.Leading.{Reached}
use Rattle.plan.proofs.forks.Forks.reached.Given as goal

abbrev pub invariant-loop-fork : goal.invariant-loop-fork
invariant-loop-fork l = Marks l.x (Reached l.self.list l.m l.fork-index)
