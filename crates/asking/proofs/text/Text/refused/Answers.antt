-- `asking::Text::refused` meets its contract: its parts one after another. Assumes nothing.
use Rattle.tables.proofs.Kit.{arith, ◌≤◌, length, ◌∙◌, ◌≡◌, subst}
use Rattle.tables.specs.Refusal.{number}
use Rattle.asking.specs.{Text.refused_line, inner.Writing.Grew}
use Rattle.asking.proofs.Writing.{grew_then}
use Rattle.asking.proofs.text.Text.refused.Goals as goal

pub returns : goal.returns
unfolding refused_line
returns c =
    let x = c.args.self.now in
    let l : x.len ≤ length x.out.now = omega arith in
    let e : c.from-2.result ≡ number c.args.r = c.from-2.ensures ∙ c.from.ensures in
    subst (λ k. Grew x (refused_line k c.args.word.now) c.word-4.new.self) e
    (grew_then l (grew_then l (grew_then l (grew_then l c.word.ensures c.item.ensures) c.word-2.ensures) c.word-3.ensures) c.word-4.ensures)
