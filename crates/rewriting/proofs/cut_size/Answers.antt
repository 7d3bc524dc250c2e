-- `rewriting::cut_size` meets its contract: the steps from c up to the one looked at are c or below it. Assumes nothing.
use Rattle.tables.proofs.{Kept.{kept_pattern}, Rules.{shape_ordered}}
use Rattle.rewriting.proofs.CutSize.{taken_next, taken_stop}
use Rattle.rewriting.proofs.cut_size.Goals as goal

pub returns-then-p-u : goal.returns-then-p-u
returns-then-p-u c = rw c.from-row.ensures (taken_stop (shape_ordered (kept_pattern c.args.p.right)) c.loop-u.invariant c.if-p-u.true)

pub loop-u-preserved : goal.loop-u-preserved
loop-u-preserved c = taken_next (shape_ordered (kept_pattern c.args.p.right)) c.loop-u.invariant c.loop-u-test.true c.if-p-u.false
