-- `halves::get_halves` meets its contract: the numbers before the one looked at stand in the list, which keeps its other entries. Assumes nothing.
use Rattle.tables.proofs.Kit.{◌+◌, ◌*◌, ◌≡◌, ◌++◌, drop}
use Rattle.tables.specs.Column.{column}
use Rattle.halves.specs.Bytes.{half}
use Rattle.halves.proofs.get_halves.Given as goal

abbrev pub invariant-loop-k : goal.invariant-loop-k
invariant-loop-k l = l.list ≡ column (λ i. half l.s (l.at + l.gap * i)) l.k ++ drop l.k l.initial.list
