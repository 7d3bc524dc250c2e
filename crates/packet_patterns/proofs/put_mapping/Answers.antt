-- `packet_patterns::put_mapping` meets its contract: the room, and then the steps before the one looked at are written. Assumes nothing.
use Rattle.tables.proofs.Kit.{refl, get_or, arith}
use Rattle.tables.specs.Column.{blocks, step_no}
use Rattle.tables.proofs.Columns.{column_next}
use Rattle.packet_patterns.proofs.put_mapping.Goals as goal

pub loop-k-init : goal.loop-k-init
unfolding blocks
loop-k-init c = refl

pub loop-k-preserved : goal.loop-k-preserved
loop-k-preserved c =
    let l = c.loop-k in
    rw l.invariant (column_next (λ j. (get_or c.args.mapping.now j (step_no 0)).0) c.args.room.now l.k _ (omega arith) refl)
