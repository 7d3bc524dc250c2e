-- `halves::get_halves` meets its contract: the numbers before the one looked at stand in the list, which keeps its other entries. Assumes nothing.
use Rattle.tables.proofs.Kit.{◌+◌, ◌*◌, arith, rules}
use Rattle.tables.specs.Column.{blocks}
use Rattle.tables.proofs.Columns.{column_next}
use Rattle.halves.specs.Bytes.{half}
use Rattle.halves.proofs.get_halves.Goals as goal

pub loop-k-init : goal.loop-k-init
unfolding blocks
loop-k-init c = search rules

pub loop-k-preserved : goal.loop-k-preserved
loop-k-preserved c =
    let x = c.args in
    rw c.loop-k.invariant (column_next (λ i. half x.s.now (x.at + x.gap * i)) x.list.now c.loop-k.k _ (omega arith) c.get_half.ensures)
