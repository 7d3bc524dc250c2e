-- `ByteTable::fill` meets its contract. The loop's invariant: the table is that of the first t steps. Assumes nothing.
use Rattle.tables.proofs.Kit.{◌≡◌, get_or}
use Rattle.tables.specs.Bits.{bit}
use Rattle.plan.specs.Leading.{Spread}
use Rattle.plan.proofs.byte_table.ByteTable.fill.Given as goal

abbrev pub invariant-loop-t : goal.invariant-loop-t
invariant-loop-t l = Spread (λ a b. bit (get_or l.to a 0) b ≡ 1) l.t l.self.entries
