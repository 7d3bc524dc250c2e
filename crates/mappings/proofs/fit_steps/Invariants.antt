-- `mappings::fit_steps` meets its contract: the invariant is the state of the upward pass, for every pattern that the plan is of. Assumes nothing.
use Rattle.tables.proofs.Kit.{◌≤◌, ◌^◌, ◌≡◌, length}
use Rattle.tables.specs.Pattern.{Shape, shape_of, rows_of}
use Rattle.plan.specs.{Plans.GroupPlan, Rising.entries}
use Rattle.plan.proofs.Rising.{Risen}
use Rattle.mappings.specs.Fits.{FitsIn}
use Rattle.mappings.proofs.fit_steps.Given as goal

abbrev pub invariant-loop-i : goal.invariant-loop-i
invariant-loop-i l = (1 ≤ l.i) × (l.i ≤ l.p.count) × (length l.fit ≡ 64) × ((B : Shape) → GroupPlan B l.plan → l.output ≡ 2 ^ B.output
    → Risen (rows_of (shape_of l.p)) (FitsIn B (shape_of l.p)) l.i (entries l.fit) (entries l.under))
