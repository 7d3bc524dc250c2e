-- `GroupedPlan::fits` meets its contract: the steps of the label that lack nothing, by the shift and the forks. Assumes nothing.
use Rattle.plan.proofs.FitSteps.{lacking_grouped, fits_from, fits_none}
use Rattle.plan.proofs.GroupedPlan.fits.Goals as goal

pub returns-then-mask-eq0 : goal.returns-then-mask-eq0
returns-then-mask-eq0 c = λ A p. fits_none A _ _ _ _ (c.of-mask.ensures A p.labels) c.if-mask-eq0.true

pub returns : goal.returns
returns c = λ A p.
    let g = p.sets_of in
    fits_from A _ _ _ _ (c.of-mask.ensures A p.labels) _
    (lacking_grouped A _ g _ _ _ (c.missing-lost.ensures A g) _ _ p.groups _ c.reached.ensures _)
