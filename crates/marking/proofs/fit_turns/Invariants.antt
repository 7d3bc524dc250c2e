-- The invariant is the state of the upward pass, for every pattern that the plan is of. Assumes nothing.
use Rattle.tables.proofs.Kit.{◌≤◌}
use Rattle.tables.specs.{Document.of_lists, Pattern.Shape}
use Rattle.plan.specs.Plans.{TablePlan}
use Rattle.marking.proofs.Upward.{Upward}
use Rattle.marking.proofs.fit_turns.Given as goal

abbrev pub invariant-loop-i : goal.invariant-loop-i
invariant-loop-i l = (1 ≤ l.i) × ((A : Shape) → TablePlan A l.plan → Upward A (of_lists l.d.lists) l.seed l.i l.initial.work l.work)
