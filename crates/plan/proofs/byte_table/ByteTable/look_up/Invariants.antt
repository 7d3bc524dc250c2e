-- `ByteTable::look_up` meets its contract. The loop's invariant: `r` is what the first c bytes find. Assumes nothing.
use Rattle.tables.proofs.Kit.{◌≡◌}
use Rattle.plan.specs.Leading.{looked_up}
use Rattle.plan.proofs.byte_table.ByteTable.look_up.Given as goal

abbrev pub invariant-loop-c : goal.invariant-loop-c
invariant-loop-c l = l.r ≡ looked_up l.self.entries l.x l.c
