-- Each start node's second entry is set to 1, and no other entry. Assumes nothing.
use Rattle.marking.proofs.Starts.{MarkedTo}
use Rattle.marking.proofs.mark_starts.Given as goal

abbrev pub invariant-loop-start : goal.invariant-loop-start
invariant-loop-start l = MarkedTo l.starts l.initial.work l.start-index l.work
