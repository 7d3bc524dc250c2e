-- `asking::Text::line` meets its contract: its parts one after another. Assumes nothing.
use Rattle.tables.proofs.Kit.{arith, ◌≤◌, length}
use Rattle.asking.specs.Text.{line}
use Rattle.asking.proofs.Writing.{grew_then}
use Rattle.asking.proofs.text.Text.line.Goals as goal

pub returns : goal.returns
unfolding line
returns c =
    let x = c.args.self.now in
    let l : x.len ≤ length x.out.now = omega arith in
    grew_then l (grew_then l (grew_then l (grew_then l c.word.ensures c.item.ensures) c.word-2.ensures) c.list.ensures) c.word-3.ensures
