-- `rewriting::cut_size` meets its contract: the steps from c up to the one looked at are c or below it. Assumes nothing.
use Rattle.tables.specs.Pattern.{shape_of}
use Rattle.rewriting.proofs.CutSize.{Taken}
use Rattle.rewriting.proofs.cut_size.Given as goal

abbrev pub invariant-loop-u : goal.invariant-loop-u
invariant-loop-u l = Taken (shape_of l.p.table.now).tree l.c.0 l.u
