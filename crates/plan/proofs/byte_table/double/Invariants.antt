-- `ByteTable::double` meets its contract. The loop's invariant: u of the new entries are written. Assumes nothing.
use Rattle.tables.proofs.Kit.{ℕ, ◌<◌, ◌≡◌, bit_or, get_or}
use Rattle.plan.proofs.byte_table.double.Given as goal

abbrev pub invariant-loop-u : goal.invariant-loop-u
invariant-loop-u l = (k : ℕ) → k < l.u → get_or l.new k 0 ≡ bit_or (get_or l.old k 0) l.m
