-- `containment::comparing::within` meets its contract: the first step picked tells whether there is a mapping. Assumes nothing.
use Rattle.tables.specs.Pattern.{shape_of}
use Rattle.tables.proofs.Kept.{kept_pattern}
use Rattle.containment.proofs.Verdicts.{first_picked, picked_tells}
use Rattle.containment.proofs.comparing.within.Goals as goal

pub returns : goal.returns
returns c =
    let A = shape_of c.args.a.table.now in
    let B = shape_of c.args.b.table.now in
    let p = first_picked A B (kept_pattern c.args.a.right) (kept_pattern c.args.b.right) _ c.fit_steps-fit.ensures c.first_image.ensures in
    rw c.is_some.ensures (picked_tells A B (kept_pattern c.args.a.right) (kept_pattern c.args.b.right) p)
