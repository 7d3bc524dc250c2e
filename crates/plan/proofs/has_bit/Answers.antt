-- `plan::has_bit` meets its contract: the flag of an equality tells it. Assumes nothing.
use Rattle.tables.proofs.Kit.{◌/◌, ◌%◌, ◌^◌}
use Rattle.tables.specs.Bits.{bit}
use Rattle.tables.proofs.Tests.{tells_eq}
use Rattle.plan.proofs.has_bit.Goals as goal

pub returns : goal.returns
unfolding bit
returns c = let t = tells_eq (c.args.x / 2 ^ c.args.s.0 % 2) 1 in (t.says, t.test)
