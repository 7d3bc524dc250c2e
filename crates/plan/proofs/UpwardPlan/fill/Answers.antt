-- `UpwardPlan::fill` meets its contract. Assumes nothing.
use Rattle.tables.proofs.Kit.{arith}
use Rattle.tables.specs.Pattern.{shape_of}
use Rattle.tables.proofs.Kept.{kept_pattern}
use Rattle.plan.specs.Leading.{ToParent}
use Rattle.plan.proofs.Bytes.{spread_marks}
use Rattle.plan.proofs.UpwardPlan.fill.Goals as goal

pub returns : goal.returns
returns c =
    let A = shape_of c.args.p.table.now in
    let g = c.fill.ensures in record {
      labels = c.fill-2.ensures;
      sets_of = g.sets;
      up = spread_marks (ToParent A) A.tree.size _ _ (omega (arith, (kept_pattern c.args.p.right).few)) g.up c.fill-3.ensures;
    }
