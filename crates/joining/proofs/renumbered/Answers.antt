-- `joining::renumbered` meets its contract: by the two cases of `renumber`. Assumes nothing.
use Rattle.tables.proofs.Kit.{sym, arith}
use Rattle.joining.proofs.Parts.{renumber_low, renumber_high}
use Rattle.joining.proofs.renumbered.Goals as goal

pub returns-then-o-s : goal.returns-then-o-s
returns-then-o-s c = sym (renumber_high c.args.o.0 c.args.more c.args.s.0 (omega arith))

pub returns : goal.returns
returns c = sym (renumber_low c.args.o.0 c.args.more c.args.s.0 (omega arith))
