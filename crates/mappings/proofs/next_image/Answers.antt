-- `mappings::next_image` meets its contract: none of the steps from q to s is right. Assumes nothing.
use Rattle.tables.proofs.Kit.{◌∙◌, subst, arith}
use Rattle.mappings.proofs.Images.{Sought, sought_start, sought_here, sought_end}
use Rattle.mappings.proofs.next_image.Goals as goal

pub loop-s-init : goal.loop-s-init
loop-s-init c = λ A l. subst (Sought A _ _ _ _) (omega arith) (sought_start A _ _ _ _)

pub returns-then-goes : goal.returns-then-goes
returns-then-goes c = λ A l w.
    let s = c.loop-s.s in
    let f = c.goes.ensures.0 (rw c.if-goes.true tt) in
    sought_here A _ _ _ _ l.valid s (c.loop-s.invariant A l) w
    (λ e. (l.parent s ∙ (f e).0, l.axis s ∙ (f e).1), c.has_bit.ensures.0 (rw c.if-has_bit.true tt))

pub returns : goal.returns
returns c = λ A l w. sought_end A _ _ _ _ l.valid c.loop-s.s (c.loop-s.invariant A l) (omega (arith, l.count))
