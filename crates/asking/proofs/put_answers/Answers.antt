-- `asking::put_answers` meets its contract: the view's line, the query's, the third. Assumes nothing.
use Rattle.tables.proofs.Kit.{arith, rules}
use Rattle.tables.specs.Document.{of_lists}
use Rattle.placing.specs.Answer.{StartList}
use Rattle.asking.specs.Text.{view_word, query_word}
use Rattle.asking.proofs.Answering.{lists_short, lists_start, answers_put}
use Rattle.asking.proofs.put_answers.Goals as goal

-- the view's line fits
pub line-requires : goal.line-requires
line-requires c = omega (arith, lists_short c.args.v.right view_word c.find-seen.result.now c.args.d.right c.find-seen.ensures)

-- the query's line fits too
pub line-requires-2 : goal.line-requires-2
line-requires-2 c =
    omega (
      arith,
      lists_short c.args.v.right view_word c.find-seen.result.now c.args.d.right c.find-seen.ensures,
      lists_short c.args.q.right query_word c.find-told.result.now c.args.d.right c.find-told.ensures,
    )

-- the view's answers are a start list; so are the query's, so that it is the result that tells which of them was started
pub put_third-requires-clause-start_list : goal.put_third-requires-clause-start_list
put_third-requires-clause-start_list c =
    let d = of_lists c.args.d.lists in
    let l : StartList d c.find-seen.result.now = lists_start c.args.v.right _ c.find-seen.ensures in
    let m : StartList d c.find-told.result.now = lists_start c.args.q.right _ c.find-told.ensures in
    search rules

pub put_third-requires-clause-room : goal.put_third-requires-clause-room
put_third-requires-clause-room c =
    omega (
      arith,
      lists_short c.args.v.right view_word c.find-seen.result.now c.args.d.right c.find-seen.ensures,
      lists_short c.args.q.right query_word c.find-told.result.now c.args.d.right c.find-told.ensures,
    )

pub returns : goal.returns
returns c = answers_put (omega arith) c.find-seen.ensures c.find-told.ensures c.line.ensures c.line-2.ensures c.put_third.ensures
