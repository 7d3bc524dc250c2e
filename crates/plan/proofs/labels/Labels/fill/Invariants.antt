-- `Labels::fill` meets its contract. The loop's invariant: the steps below s stand in both tables, by the bytes of their labels. Assumes nothing.
use Rattle.tables.proofs.Kit.{◌/◌, ◌%◌, ◌≡◌, get_or, length}
use Rattle.tables.proofs.MarkTables.{Keyed}
use Rattle.plan.proofs.labels.Labels.fill.Given as goal

abbrev pub invariant-loop-s : goal.invariant-loop-s
invariant-loop-s l = (length l.self.low ≡ 256) × (length l.self.high ≡ 256) × Keyed (λ k. get_or l.p.table.now.label k 0 % 256) 0 l.s l.self.low
    × Keyed (λ k. get_or l.p.table.now.label k 0 / 256) 0 l.s l.self.high
