-- `Edges::fill` meets its contract. The loop's invariant: the sets have the steps from 1 on and below t, and these stand as bits at their parents and have
-- their own. Assumes nothing.
use Rattle.tables.proofs.Kit.{◌+◌, ◌≡◌, get_or, length}
use Rattle.tables.specs.{Bits.Marks, Column.step_no}
use Rattle.tables.proofs.MarkTables.{Among, Keyed}
use Rattle.plan.proofs.Steps.{Pointed, Forking}
use Rattle.plan.proofs.edges.Edges.fill.Given as goal

abbrev pub invariant-loop-t : goal.invariant-loop-t
invariant-loop-t l =
    (length l.self.children ≡ 64) × (length l.self.parents ≡ 64)
    × Keyed (λ k. (get_or l.p.table.now.parent k (step_no 0)).0) 1 l.t l.self.children
    × Pointed (λ k. (get_or l.p.table.now.parent k (step_no 0)).0) l.t l.self.parents
    × Marks l.sets.child (Among 1 l.t (λ s. get_or l.p.table.now.axis s 0 ≡ 0))
    × Marks l.sets.descendant (Among 1 l.t (λ s. get_or l.p.table.now.axis s 0 ≡ 1))
    × Marks l.sets.next (Among 1 l.t (λ s. (get_or l.p.table.now.parent s (step_no 0)).0 + 1 ≡ s))
    × Forking (λ k. (get_or l.p.table.now.parent k (step_no 0)).0) l.t l.sets.forked
