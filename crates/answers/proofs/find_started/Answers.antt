-- Both passes, with the start list's nodes marked between them. Assumes nothing.
use Rattle.tables.proofs.Kit.{◌∙◌}
use Rattle.tables.specs.Pattern.{shape_of}
use Rattle.tables.proofs.Kept.{kept_pattern, kept_document}
use Rattle.placing.specs.Answer.{In}
use Rattle.answers.proofs.{AnswerList.found_first, Finding.{found_before, started_ready, started_first, started_rest}}
use Rattle.answers.proofs.find_started.Goals as goal

pub returns : goal.returns
returns c =
    let p = kept_pattern c.args.p.right in
    let v = kept_document c.args.d.right in
    let A = shape_of c.args.p.table.now in
    let r = c.requires in
    let u = c.fit_nodes.ensures in
    let m = c.mark_starts in
    let starts = c.args.starts.now in
    let e = m.ensures in
    found_first A _ _ (In starts) p (started_first A _ p v _ _ r.room.1 u starts m.new.work r.by_index m.auto.work e.marks e.others) _ _ _ _ _
    (found_before A _ _ _ _ _ _ _ _ (m.auto.work ∙ u.same_length)
    (started_rest A _ p v _ _ r.room.1 u starts m.new.work r.by_index m.auto.work e.marks e.others)
    (c.place_nodes.ensures (started_ready A _ p v _ _ r.room.1 u starts m.new.work r.by_index m.auto.work e.marks e.others)))
