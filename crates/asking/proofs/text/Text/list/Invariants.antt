-- `asking::Text::list` meets its contract: the numbers before the one looked at are put. Assumes nothing.
use Rattle.asking.proofs.Writing.{Spaced}
use Rattle.asking.proofs.text.Text.list.Given as goal

abbrev pub invariant-loop-x : goal.invariant-loop-x
invariant-loop-x l = Spaced l.initial.self l.list l.x-index l.self
