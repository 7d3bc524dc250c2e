-- Both passes, with the start nodes of the plain form marked between them. Assumes nothing.
use Rattle.tables.proofs.Kit.{ℕ, subst}
use Rattle.tables.specs.{Document.of_lists, Pattern.shape_of}
use Rattle.tables.proofs.Kept.{kept_pattern, kept_document}
use Rattle.placing.specs.Answer.{Begins}
use Rattle.marking.specs.Entries.{Fitted}
use Rattle.answers.proofs.{AnswerList.found_first, Finding.{found_before, plain_ready, plain_first, plain_length, plain_rest}}
use Rattle.answers.proofs.find.Goals as goal

pub returns : goal.returns
returns c =
    let p = kept_pattern c.args.p.right in
    let v = kept_document c.args.d.right in
    let A = shape_of c.args.p.table.now in
    let room = c.requires.1 in
    let u = subst (λ (x : ℕ). Fitted A (of_lists c.args.d.lists) x c.args.work.now c.fit_nodes.new.work) c.from-seed.ensures c.fit_nodes.ensures in
    found_first A _ _ (Begins A) p (plain_first A _ p v _ _ room u) _ _ _ _ _
    (found_before A _ _ _ _ _ _ _ _ (plain_length A _ p v _ _ room u) (plain_rest A _ p v _ _ room u)
    (c.place_nodes.ensures (plain_ready A _ p v _ _ room u)))
