-- `UpwardPlan::fits` meets its contract: the steps of the label that lack nothing. Assumes nothing.
use Rattle.plan.proofs.FitSteps.{fits_from}
use Rattle.plan.proofs.UpwardPlan.fits.Goals as goal

pub returns : goal.returns
returns c = λ A p. fits_from A _ _ _ _ (c.of-mask.ensures A p.labels) _ (c.lacking.ensures A p.sets_of p.up)
