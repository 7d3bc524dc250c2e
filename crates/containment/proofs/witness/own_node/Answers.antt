-- `containment::witness::own_node` meets its contract. Assumes nothing.
use Rattle.tables.proofs.Kit.{◌+◌, ◌<◌, ◌≡◌, ap, arith, add-one}
use Rattle.tables.specs.{Column.node_no, Pattern.shape_of}
use Rattle.tables.proofs.Kept.{kept_pattern}
use Rattle.containment.specs.Witness.{descendants, own_node_of}
use Rattle.containment.proofs.WitnessSteps.{own_few}
use Rattle.containment.proofs.witness.own_node.Goals as goal
use Rattle.containment.proofs.witness.own_node.Goals.{After-descendants_before}

-- the sum is the step's node, one of at most 128
own : (c : After-descendants_before) → let A = shape_of c.args.a.table.now in
    (c.args.s.0 + c.descendants_before.result ≡ own_node_of A c.args.s.0) × (own_node_of A c.args.s.0 < 128)
unfolding own_node_of
own c =
    let A = shape_of c.args.a.table.now in
    let e : c.descendants_before.result ≡ descendants A (c.args.s.0 + 1) = rw c.from-k.ensures at c.descendants_before.ensures in
    (rw (e, add-one), own_few A (kept_pattern c.args.a.right) c.args.s.0 c.requires)

pub returns : goal.returns
returns c = ap node_no (omega (arith, (own (goal.at.returns c).After-descendants_before).0))

pub overflow_add-result : goal.overflow_add-result
overflow_add-result c = let d = own (goal.at.overflow_add-result c).After-descendants_before in omega arith

pub overflow_cast-result : goal.overflow_cast-result
overflow_cast-result c = let d = own (goal.at.overflow_cast-result c).After-descendants_before in omega arith
