-- `DownwardPlan::led` meets its contract: by the table where a step of x is forked, else by the shift. Assumes nothing.
use Rattle.tables.proofs.Kit.{arith}
use Rattle.tables.specs.Tree.{Child}
use Rattle.tables.proofs.Marks.{bits_lt}
use Rattle.plan.proofs.{Bytes.look_up_led, Shifts.shift_up}
use Rattle.plan.proofs.DownwardPlan.led.Goals as goal

pub returns-then-x-self-ne0 : goal.returns-then-x-self-ne0
returns-then-x-self-ne0 c = λ A p few.
    let g = p.sets_of in
    rw c.look_up-r.ensures (look_up_led (Child A.tree) A.tree.size _ _ p.down (bits_lt 64 _ (λ s b. omega (arith, few s b, g.valid.few))) few)

pub returns-else-x-self-ne0 : goal.returns-else-x-self-ne0
returns-else-x-self-ne0 c = λ A p few. let g = p.sets_of in shift_up A g.valid _ _ g.next g.forked _ (omega (arith, c.if-x-self-ne0.false))
