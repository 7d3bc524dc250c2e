-- `DownwardPlan::fill` meets its contract. Assumes nothing.
use Rattle.tables.proofs.Kit.{arith}
use Rattle.tables.specs.{Tree.Child, Pattern.shape_of}
use Rattle.tables.proofs.Kept.{kept_pattern}
use Rattle.plan.proofs.Bytes.{spread_marks}
use Rattle.plan.proofs.DownwardPlan.fill.Goals as goal

pub returns : goal.returns
returns c =
    let A = shape_of c.args.p.table.now in
    let g = c.fill.ensures in record {
      sets_of = g.sets;
      down = spread_marks (Child A.tree) A.tree.size _ _ (omega (arith, (kept_pattern c.args.p.right).few)) g.down c.fill-2.ensures;
    }
