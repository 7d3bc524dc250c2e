-- The numbers of the turn are those of the law. Assumes nothing.
use Rattle.tables.proofs.Kit.{arith}
use Rattle.tables.specs.Document.{of_lists}
use Rattle.tables.proofs.{Kept.kept_document, Rules.document_ordered, Trees.parent_lt}
use Rattle.marking.specs.Entries.{Marked}
use Rattle.answers.proofs.TurnDown.{turned}
use Rattle.answers.proofs.standing.place_turn.Goals as goal

pub returns : goal.returns
returns c =
    let a = c.above-over.ensures in
    let r = c.requires in
    let v = kept_document c.args.d.right in
    λ A before k u.
    let passed = rw c.from-row.ensures at (c.pass_on.ensures A k) in
    rw c.from-row.ensures
    (turned A k.sets_of.valid (of_lists c.args.d.lists) (Marked before) c.args.i.0 _ _ before _ _ r.0
    (λ h. parent_lt (document_ordered v) c.args.i.0 h r.0) r.1 (omega (arith, v.few)) a.none a.given passed u)
