-- `containment::witness::write_witness` meets its contract: the steps before s are written. Assumes nothing.
use Rattle.tables.proofs.Kit.{◌≡◌, length}
use Rattle.tables.specs.Pattern.{shape_of}
use Rattle.containment.proofs.WitnessSteps.{Front, NodesTo}
use Rattle.containment.proofs.witness.write_witness.Given as goal

abbrev pub invariant-loop-s : goal.invariant-loop-s
invariant-loop-s l = Front (shape_of l.p) l.l l.s l.m l.initial.parents l.initial.labels l.parents l.labels × (length l.nodes ≡ 64)
    × NodesTo (shape_of l.p) l.s l.nodes
