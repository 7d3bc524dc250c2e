-- The invariant is the state of the second pass and the answers so far, for every pattern that the plan is of. Assumes nothing.
use Rattle.tables.proofs.Kit.{◌≤◌, ◌≡◌}
use Rattle.tables.specs.{Document.of_lists, Pattern.Shape}
use Rattle.plan.specs.Plans.{DownPlan}
use Rattle.marking.specs.Entries.{Marked}
use Rattle.answers.specs.inner.Standing.{Ready, Downward, Listed}
use Rattle.answers.proofs.standing.place_turns.Given as goal

abbrev pub invariant-loop-i : goal.invariant-loop-i
invariant-loop-i l = (l.c ≤ l.i)
    × ((A : Shape) → DownPlan A l.plan → A.output ≡ l.output.0 → Ready A (of_lists l.d.lists) l.initial.work
    → Downward A (of_lists l.d.lists) (Marked l.initial.work) l.i l.initial.work l.work l.allowed
    × Listed A (of_lists l.d.lists) (Marked l.initial.work) l.i l.c l.initial.list l.list)
