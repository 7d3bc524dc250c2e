-- `tables::table::hangs` meets its contract: the loop is the climb of Climbs. Assumes nothing.
use Rattle.tables.proofs.Kit.{subst, sym, arith}
use Rattle.tables.proofs.Hanging.{Climbs, climb_falls, climb_goes, climb_ends}
use Rattle.tables.proofs.table.hangs.Goals as goal

pub loop-a-smaller : goal.loop-a-smaller
loop-a-smaller g c =
    let r = g.R.Table.rows c.args.rows.now in
    let f = climb_falls r.tree c.args.root c.args.i (omega arith) c.requires.in_bounds c.requires.by_index c.loop-a.a (omega arith) c.loop-a.invariant.low in
    omega (arith, c.parent-a.ensures)

pub loop-a-preserved : goal.loop-a-preserved
loop-a-preserved g c =
    let r = g.R.Table.rows c.args.rows.now in
    let k = climb_goes r.tree c.args.root c.args.i (omega arith) c.requires.in_bounds c.requires.by_index c.loop-a.invariant
    (omega (arith, c.parent-p.ensures)) in
    subst (Climbs r.tree c.args.i) (sym c.parent-a.ensures) k

pub returns : goal.returns
returns g c =
    let r = g.R.Table.rows c.args.rows.now in
    rw c.parent-p.ensures (climb_ends r.tree c.args.root c.args.i (omega arith) c.requires.in_bounds c.requires.by_index c.loop-a.invariant
    (omega (arith, c.parent-p.ensures)))
