-- `packets::pattern_in` meets its contract: the steps before the row looked at stand in the three arrays, with zeros after them. Assumes nothing.
use Rattle.tables.proofs.Filling.{Filled}
use Rattle.packets.specs.PatternPacket.{packet_shape}
use Rattle.packets.proofs.pattern_in.Given as goal

abbrev pub invariant-loop-row : goal.invariant-loop-row
invariant-loop-row l = Filled (packet_shape l.fn.s) l.row-index l.p
