-- `containment::witness::descendants_before` meets its contract: d counts the descendant steps looked at. Assumes nothing.
use Rattle.tables.proofs.Kit.{◌<◌, ◌≡◌, ◌≤◌, refl, ⊎_elim, arith, add-one, get_or, length-take, get_or-take}
use Rattle.tables.specs.Pattern.{shape_of, ValidPattern}
use Rattle.tables.proofs.Kept.{kept_pattern}
use Rattle.containment.specs.Witness.{descendants}
use Rattle.containment.proofs.{Contained.axes, Nodes.descendants_le}
use Rattle.containment.proofs.witness.descendants_before.Goals as goal
use Rattle.containment.proofs.witness.descendants_before.Goals.{After-from-d}

pub loop-axis-init : goal.loop-axis-init
unfolding descendants
loop-axis-init c = refl

early : (c : After-from-d) → c.loop-axis.axis-index < c.args.k
early c = omega (arith, length-take c.args.k c.args.a.table.now.axis)

entry : (c : After-from-d) → c.from-d.result ≡ get_or c.args.a.table.now.axis c.loop-axis.axis-index 0
entry c = rw (get_or-take c.args.k c.args.a.table.now.axis c.loop-axis.axis-index 0 (early c)) at c.from-d.ensures

pub overflow_add-d : goal.overflow_add-d
overflow_add-d c =
    let g = (goal.at.overflow_add-d c).After-from-d in
    let v : ValidPattern c.args.a.table.now = kept_pattern c.args.a.right in
    let i = c.loop-axis.axis-index in
    omega (
      arith,
      early g,
      entry g,
      descendants_le (shape_of c.args.a.table.now) (axes v) i (omega (arith, early g)),
      v.few,
      ⊎_elim {C = get_or c.args.a.table.now.axis i 0 ≤ 1} (λ e. omega arith) (λ e. omega arith) (v.steps i (omega (arith, early g))).axis,
    )

pub loop-axis-preserved : goal.loop-axis-preserved
unfolding descendants
loop-axis-preserved c =
    let g = (goal.at.loop-axis-preserved c).After-from-d in
    rw add-one (omega (arith, c.loop-axis.invariant, entry g))
