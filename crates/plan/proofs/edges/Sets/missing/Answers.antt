-- `Sets::missing` meets its contract: the edges whose place is not found. Assumes nothing.
use Rattle.plan.proofs.FitSteps.{marks_missing}
use Rattle.plan.proofs.edges.Sets.missing.Goals as goal

pub returns : goal.returns
returns c = λ A g. marks_missing A _ g _ _
