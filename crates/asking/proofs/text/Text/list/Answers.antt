-- `asking::Text::list` meets its contract: the numbers before the one looked at are put. Assumes nothing.
use Rattle.tables.proofs.Kit.{arith}
use Rattle.asking.proofs.Writing.{spaced_none, spaced_room, spaced_next, spaced_all}
use Rattle.asking.proofs.text.Text.list.Goals as goal

pub loop-x-init : goal.loop-x-init
loop-x-init c = spaced_none _ _

pub item-requires : goal.item-requires
item-requires c = spaced_room _ _ _ _ _ c.requires (omega arith) c.from.ensures c.loop-x.invariant

pub loop-x-preserved : goal.loop-x-preserved
loop-x-preserved c = spaced_next _ _ _ _ _ _ (omega arith) c.from.ensures c.loop-x.invariant c.item.ensures

pub returns : goal.returns
returns c = spaced_all _ _ _ _ (omega arith) c.loop-x.invariant
