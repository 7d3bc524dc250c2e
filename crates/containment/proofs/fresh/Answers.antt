-- `containment::fresh` meets its contract. The labels up to l all stand; in the inner loops the steps looked at do not have the label l. Assumes nothing.
use Rattle.tables.proofs.Kit.{ℕ, ◌+◌, ◌≤◌, sym, ◌⊎◌, inl, inr, ⊎_elim, arith, below_more}
use Rattle.containment.specs.Witness.{Stands}
use Rattle.containment.proofs.UsedLabels.{label_stands, none_used}
use Rattle.containment.proofs.fresh.Goals as goal

pub labels-preserved-then-used-from : goal.labels-preserved-then-used-from
labels-preserved-then-used-from c =
    let l = c.labels.l + 1 in
    below_more (λ (k : ℕ). 1 ≤ k → Stands _ k ⊎ Stands _ k) l c.labels.invariant (λ z. ⊎_elim
    (λ t. ⊎_elim (λ f. absurd (none_used 256 l (omega arith) f)) inl (c.mark_labels.ensures l t))
    inr
    (c.mark_labels-2.ensures l (rw (← c.from.ensures, c.if-used-from.true) tt)))

pub labels-preserved-then-first-l : goal.labels-preserved-then-first-l
labels-preserved-then-first-l c =
    below_more (λ (k : ℕ). 1 ≤ k → Stands _ k ⊎ Stands _ k) (c.labels.l + 1) c.labels.invariant
    (λ z. inl (label_stands c.args.a.table.now c.loop-first.first-index _ c.loop-first-test.true (sym c.if-first-l.true)))

pub labels-preserved : goal.labels-preserved
labels-preserved c =
    below_more (λ (k : ℕ). 1 ≤ k → Stands _ k ⊎ Stands _ k) (c.labels.l + 1) c.labels.invariant
    (λ z. inr (label_stands c.args.b.table.now c.loop-second.second-index _ c.loop-second-test.true (sym c.if-second-l.true)))
