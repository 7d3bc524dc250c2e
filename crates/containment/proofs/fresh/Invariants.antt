-- `containment::fresh` meets its contract. The labels up to l all stand; in the inner loops the steps looked at do not have the label l. Assumes nothing.
use Rattle.tables.proofs.Kit.{ℕ, ◌+◌, ◌-◌, ◌<◌, ◌≤◌, ◌≡◌, ◌⊎◌, get_or}
use Rattle.tables.specs.Pattern.{shape_of}
use Rattle.containment.specs.Witness.{Stands}
use Rattle.containment.proofs.fresh.Given as goal

abbrev pub invariant-loop-first : goal.invariant-loop-first
invariant-loop-first l = (k : ℕ) → k < l.first-index → get_or l.firsts k 0 ≡ l.l → ⊥

abbrev pub invariant-loop-second : goal.invariant-loop-second
invariant-loop-second l = (k : ℕ) → k < l.second-index → get_or l.seconds k 0 ≡ l.l → ⊥

abbrev pub invariant-labels : goal.invariant-labels
invariant-labels l = (k : ℕ) → k < l.l + 1 → 1 ≤ k → Stands (shape_of l.a.table.now) k ⊎ Stands (shape_of l.b.table.now) k

abbrev pub decreases-labels : goal.decreases-labels
decreases-labels l = 65535 - l.l
