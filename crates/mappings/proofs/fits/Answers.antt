-- `mappings::fits` meets its contract: the steps that fit by their label, with or without the output step. Assumes nothing.
use Rattle.mappings.proofs.StepFits.{fits_other}
use Rattle.mappings.proofs.fits.Goals as goal

pub returns : goal.returns
returns c = λ B p o. rw o (fits_other B _ _ _ _ (c.fits-x.ensures B p) _ c.if-last.false)
