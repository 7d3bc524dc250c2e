-- `asking::put_third` meets its contract: a line for each answer of the rewriting call. Assumes nothing.
use Rattle.tables.proofs.{Kit.arith, Kept.kept_pattern}
use Rattle.asking.specs.Text.{rewriting_word, none_line}
use Rattle.asking.proofs.Answering.{lists_short, handed_right, third_handed, third_none, third_refused}
use Rattle.asking.proofs.put_third.Goals as goal

-- the line of the answers fits
pub line-requires : goal.line-requires
line-requires c =
    let v = handed_right _ _ _ (rw c.in-Ok-Some.field-0-is at c.in-Ok-Some.ensures) in
    omega (arith, lists_short ∣ v.0 ∣₁ rewriting_word c.find_started-started.result.now c.args.d.right c.find_started-started.ensures)

pub returns-in-Ok-Some : goal.returns-in-Ok-Some
returns-in-Ok-Some c = third_handed c.in-Ok-Some.e (rw c.in-Ok-Some.field-0-is at c.in-Ok-Some.ensures) c.find_started-started.ensures c.line.ensures

pub returns-in-Ok-None : goal.returns-in-Ok-None
unfolding none_line
returns-in-Ok-None c = third_none (rw c.in-Ok-None.field-0-is at c.in-Ok-None.ensures) c.word.ensures

pub returns-in-Err : goal.returns-in-Err
returns-in-Err c = third_refused c.in-Err.r (kept_pattern c.args.q.right) (kept_pattern c.args.v.right) c.in-Err.ensures c.refused.ensures
