-- `containment::witness::node_count` meets its contract: there are at most 128. Assumes nothing.
use Rattle.tables.proofs.Kit.{arith}
use Rattle.tables.specs.Pattern.{shape_of, ValidPattern}
use Rattle.tables.proofs.Kept.{kept_pattern}
use Rattle.containment.proofs.Contained.{witness_few}
use Rattle.containment.proofs.witness.node_count.Goals as goal

pub overflow_add-result : goal.overflow_add-result
overflow_add-result c =
    let v : ValidPattern c.args.a.table.now = kept_pattern c.args.a.right in
    omega (arith, c.descendants_before.ensures, witness_few {A = shape_of c.args.a.table.now} v)
