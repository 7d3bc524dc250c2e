-- `halves::put_halves` meets its contract: the numbers before the one looked at are written. Assumes nothing.
use Rattle.halves.specs.Bytes.{half_bytes}
use Rattle.halves.proofs.Rows.{RowsPut}
use Rattle.halves.proofs.put_halves.Given as goal

abbrev pub invariant-loop-k : goal.invariant-loop-k
invariant-loop-k l = RowsPut (half_bytes l.list) 0 2 l.initial.out l.k l.out
