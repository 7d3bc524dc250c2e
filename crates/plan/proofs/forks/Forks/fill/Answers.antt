-- `Forks::fill` meets its contract. The loop's invariant: the steps before s have had their turn. Assumes nothing.
use Rattle.tables.proofs.Kit.{refl, arith, length-set}
use Rattle.plan.proofs.Groups.{groups_skip, groups_more}
use Rattle.plan.proofs.forks.Forks.fill.Goals as goal
use Rattle.plan.proofs.forks.Forks.fill.Goals.{then-later-ne0, else-later-ne0}

pub loop-s-preserved : goal.loop-s-preserved
loop-s-preserved c =
    let x = c.args in
    let l = c.loop-s in
    let i = l.invariant in
    elim c.if-later-ne0.branch [
      | then-later-ne0 w ↦ (
        rw w.self-is (simp length-set i.0),
        rw (w.self-is, w.count-is, w.one_bit.ensures)
            (groups_more x.children.now x.next l.s l.count l.self.list i.1 _ refl (omega arith)),
      )
      | else-later-ne0 w ↦ (
        rw w.self-is i.0,
        rw (w.self-is, w.count-is) (groups_skip x.children.now x.next l.s l.count l.self.list i.1 (omega arith)),
      )
    ]
