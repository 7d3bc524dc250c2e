-- `UpwardPlan::lacking` meets its contract: by the table where a step of the mask is forked, else by the shift. Assumes nothing.
use Rattle.plan.proofs.FitSteps.{lacking_table, lacking_shift}
use Rattle.tables.proofs.Kit.{arith}
use Rattle.plan.proofs.UpwardPlan.lacking.Goals as goal

pub returns-then-mask-self-ne0 : goal.returns-then-mask-self-ne0
returns-then-mask-self-ne0 c = λ A g t. rw c.look_up.ensures (lacking_table A _ g _ _ _ (c.missing-lost.ensures A g) _ _ t)

pub returns : goal.returns
returns c = λ A g t. lacking_shift A _ g _ _ _ (c.missing-lost.ensures A g) _ (omega (arith, c.if-mask-self-ne0.false))
