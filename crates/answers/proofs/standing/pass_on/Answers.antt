-- What the steps of a node lead to is joined with the descendant steps of what was allowed to it. Assumes nothing.
use Rattle.tables.proofs.Kit.{◌≡◌}
use Rattle.tables.specs.{Bits.bit, Tree.Child}
use Rattle.tables.proofs.Marks.{marks_bits, marks_and, marks_or}
use Rattle.plan.specs.{Steps.OfAxis, Leading.Led}
use Rattle.answers.proofs.standing.pass_on.Goals as goal

pub returns : goal.returns
returns c = λ A p few. marks_or _ _ (Led (Child A.tree) _) _ (c.led.ensures A p few)
    (marks_and _ _ (λ t. bit c.args.over t ≡ 1) (OfAxis A 1) (marks_bits c.args.over) p.sets_of.descendant)
