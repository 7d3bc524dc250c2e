-- `Forks::reached` meets its contract. The loop's invariant: `x` has what the entries before this one give. Assumes nothing.
use Rattle.tables.proofs.Kit.{◌<◌, arith, length-take, get_or-take}
use Rattle.plan.proofs.Groups.{reached_none, reached_skip, reached_more}
use Rattle.plan.proofs.forks.Forks.reached.Goals as goal
use Rattle.plan.proofs.forks.Forks.reached.Goals.{then-m-fork-ne0, else-m-fork-ne0}

pub loop-fork-init : goal.loop-fork-init
loop-fork-init c = reached_none c.args.self.now.list c.args.m

pub loop-fork-preserved : goal.loop-fork-preserved
loop-fork-preserved c =
    let p = c.args.self.now in
    let k = c.loop-fork.fork-index in
    let i = c.loop-fork.invariant in
    let few : k < p.count = omega (arith, length-take p.count p.list) in
    let e = get_or-take p.count p.list k (record { step = 0; later = 0 }) few in
    elim c.if-m-fork-ne0.branch [
      | then-m-fork-ne0 w ↦ rw (w.x-is, e) (reached_more p.list c.args.m c.loop-fork.x k (rw e at w.if-m-fork-ne0.true) i)
      | else-m-fork-ne0 w ↦ rw w.x-is (reached_skip p.list c.args.m c.loop-fork.x k (rw e at w.if-m-fork-ne0.false) i)
    ]
