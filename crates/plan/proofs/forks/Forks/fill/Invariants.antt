-- `Forks::fill` meets its contract. The loop's invariant: the steps before s have had their turn. Assumes nothing.
use Rattle.tables.proofs.Kit.{◌≡◌, length}
use Rattle.plan.specs.Leading.{Groups}
use Rattle.plan.proofs.forks.Forks.fill.Given as goal

abbrev pub invariant-loop-s : goal.invariant-loop-s
invariant-loop-s l = (length l.self.list ≡ 64) × Groups l.children l.next l.s l.count l.self.list
