-- `GroupedPlan::fill` meets its contract. Assumes nothing.
use Rattle.tables.proofs.Kit.{arith}
use Rattle.tables.specs.Pattern.{shape_of}
use Rattle.tables.proofs.Kept.{kept_pattern}
use Rattle.plan.proofs.Groups.{grouped}
use Rattle.plan.proofs.GroupedPlan.fill.Goals as goal

pub returns : goal.returns
returns c =
    let A = shape_of c.args.p.table.now in
    let v = kept_pattern c.args.p.right in
    let g = c.fill.ensures in record {
      labels = c.fill-2.ensures;
      sets_of = g.sets;
      groups = grouped A v _ _ g.down g.sets.next _ _ (omega (arith, v.few)) c.fill-3.ensures;
    }
