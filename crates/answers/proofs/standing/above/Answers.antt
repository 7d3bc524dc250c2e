-- What a node's parent allows is read where there is a parent. Assumes nothing.
use Rattle.tables.proofs.Kit.{ℕ, ◌<◌, ap, ◌∙◌, arith, get_or}
use Rattle.tables.proofs.{Kept.kept_document, Rules.document_ordered, Trees.parent_lt}
use Rattle.answers.proofs.standing.above.Goals as goal
use Rattle.answers.proofs.standing.above.Goals.{After-from-2}

-- the parent is a node
small : (c : After-from-2) → c.from-2.result < 2048
small c =
    let v = kept_document c.args.d.right in
    let parents = c.args.d.lists.parents.now in
    let e = c.from-2.ensures ∙ ap (λ (i : ℕ). get_or parents i 0) c.from.ensures in
    omega (arith, e, parent_lt (document_ordered v) c.args.i.0 (grind arith) c.requires, v.few, c.requires)

pub bounds-allowed-from : goal.bounds-allowed-from
bounds-allowed-from c = small (goal.at.bounds-allowed-from c).After-from-2

pub offset_bounds-allowed-from : goal.offset_bounds-allowed-from
offset_bounds-allowed-from c = omega (arith, small (goal.at.offset_bounds-allowed-from c).After-from-2)
