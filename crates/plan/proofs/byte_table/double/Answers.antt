-- `double` meets its contract. The loop's invariant: u of the new entries are written. Assumes nothing.
use Rattle.tables.proofs.Kit.{arith}
use Rattle.plan.proofs.Bytes.{doubled_halves}
use Rattle.plan.proofs.byte_table.double.Goals as goal

pub returns : goal.returns
returns c =
    let s = c.split_at_mut-old in
    rw s.ensures.value (doubled_halves s.result.0.now s.result.1.now c.loop-u.new c.args.top c.args.m (omega arith) (omega arith) (omega arith)
    (λ u h. c.loop-u.invariant u (omega arith)))
