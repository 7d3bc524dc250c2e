-- `containment::mark_labels` meets its contract: what is marked was so before or stands at a step. Assumes nothing.
use Rattle.tables.specs.Pattern.{shape_of}
use Rattle.containment.proofs.UsedLabels.{UsedIn}
use Rattle.containment.proofs.mark_labels.Given as goal

abbrev pub invariant-loop-label : goal.invariant-loop-label
invariant-loop-label l = UsedIn (shape_of l.p.table.now) l.initial.used l.used
