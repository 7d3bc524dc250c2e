-- `halves::put_halves` meets its contract: the numbers before the one looked at are written. Assumes nothing.
use Rattle.tables.proofs.Kit.{refl, arith, rules}
use Rattle.halves.specs.Bytes.{half_bytes}
use Rattle.halves.proofs.Rows.{rows_none, rows_next}
use Rattle.halves.proofs.put_halves.Goals as goal

pub loop-k-init : goal.loop-k-init
loop-k-init c = rows_none _ 0 2 _

pub loop-k-preserved : goal.loop-k-preserved
unfolding half_bytes
loop-k-preserved c =
    rows_next (half_bytes c.args.list.now) 0 2 c.args.out.now c.loop-k.k c.loop-k.out _ (omega arith) (λ j. refl) c.put_half.auto.out
    (search rules) c.loop-k.invariant
