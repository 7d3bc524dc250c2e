-- `containment::choosing::choose` meets its contract: the steps before t have their images in the array. Assumes nothing.
use Rattle.tables.proofs.Kit.{ℕ, ◌<◌, ◌≤◌, ◌≡◌}
use Rattle.tables.specs.{Column.step_array, Pattern.shape_of}
use Rattle.containment.proofs.Greedily.{Chose}
use Rattle.containment.proofs.choosing.choose.Given as goal

abbrev pub invariant-loop-t : goal.invariant-loop-t
invariant-loop-t l = (0 < l.t) × (l.t ≤ l.p.count) × ((f : ℕ → ℕ) × (l.mapping ≡ step_array f l.t) × Chose (shape_of l.p) (shape_of l.a.table.now) l.t f)
