-- `packet_patterns::put_mapping` meets its contract: the steps before the one looked at are written. Assumes nothing.
use Rattle.tables.proofs.Kit.{◌≡◌, ◌++◌, get_or, drop}
use Rattle.tables.specs.Column.{column, step_no}
use Rattle.packet_patterns.proofs.put_mapping.Given as goal

abbrev pub invariant-loop-k : goal.invariant-loop-k
invariant-loop-k l = l.room ≡ column (λ j. (get_or l.mapping j (step_no 0)).0) l.k ++ drop l.k l.initial.room
