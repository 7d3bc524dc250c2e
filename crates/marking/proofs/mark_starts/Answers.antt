-- Each start node's second entry is set to 1, and no other entry. Assumes nothing.
use Rattle.tables.proofs.Kit.{◌≡◌, length, arith}
use Rattle.marking.proofs.Starts.{MarkedTo, marked_all, marked_others}
use Rattle.marking.proofs.mark_starts.Goals as goal

pub returns : goal.returns
returns c =
    let e : c.loop-start.start-index ≡ length c.args.starts.now = omega arith in
    let m : MarkedTo c.args.starts.now c.args.work.now (length c.args.starts.now) c.loop-start.work = rw e at c.loop-start.invariant in
    record { marks = marked_all _ _ _ m; others = marked_others _ _ _ m }
