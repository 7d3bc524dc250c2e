-- `containment::comparing::smallest_mapping` meets its contract: the first step picked tells whether there is a mapping. Assumes nothing.
use Rattle.tables.specs.Pattern.{shape_of}
use Rattle.tables.proofs.Kept.{kept_pattern}
use Rattle.containment.proofs.Verdicts.{first_picked, not_contained, within_chosen}
use Rattle.containment.proofs.comparing.smallest_mapping.Goals as goal

pub returns-in_err-first : goal.returns-in_err-first
returns-in_err-first c =
    let A = shape_of c.args.a.table.now in
    let B = shape_of c.args.b.table.now in
    let p = first_picked A B (kept_pattern c.args.a.right) (kept_pattern c.args.b.right) _ c.fit_steps-fit.ensures c.in_err-first.ensures in
    rw c.from_residual.ensures (not_contained A B (kept_pattern c.args.a.right) (kept_pattern c.args.b.right) p)

pub choose-requires-clause-picks : goal.choose-requires-clause-picks
choose-requires-clause-picks c =
    let A = shape_of c.args.a.table.now in
    let B = shape_of c.args.b.table.now in
    first_picked A B (kept_pattern c.args.a.right) (kept_pattern c.args.b.right) _ c.fit_steps-fit.ensures c.in_ok-first.ensures

pub returns : goal.returns
returns c = within_chosen _ _ (kept_pattern c.args.a.right) (kept_pattern c.args.b.right) _ c.choose.ensures
