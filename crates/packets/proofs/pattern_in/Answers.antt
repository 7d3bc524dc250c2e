-- `packets::pattern_in` meets its contract: the steps before the row looked at stand in the three arrays, with zeros after them. Assumes nothing.
use Rattle.tables.proofs.Kit.{◌+◌, ◌*◌, ◌∙◌, refl, arith}
use Rattle.tables.proofs.Filling.{filled_none, filled_next, filled_all}
use Rattle.packets.specs.PatternPacket.{packet_shape}
use Rattle.packets.proofs.Halves.{row_read, row_half}
use Rattle.packets.proofs.pattern_in.Goals as goal

pub loop-row-init : goal.loop-row-init
unfolding packet_shape
loop-row-init c =
    let z = c.requires.sized.1 in
    filled_none (packet_shape c.args.s.now) _ _ c.requires.none refl (omega (arith, z.few, z.field))

pub loop-row-preserved : goal.loop-row-preserved
unfolding packet_shape
loop-row-preserved c =
    let bs = c.args.s.now in
    let k = c.loop-row.row-index in
    let front = c.as_chunks.ensures.front in
    let n = c.as_chunks.ensures.front_len in
    rw c.push.ensures (filled_next _ _ _ c.loop-row.invariant (omega arith)
    (row_read bs 4 _ k 0 (4 + 4 * k) front (omega (arith, n)) (omega arith) (omega arith))
    (row_read bs 4 _ k 1 (5 + 4 * k) front (omega (arith, n)) (omega arith) (omega arith))
    (c.get_half.ensures ∙ row_half bs 4 _ k 2 (6 + 4 * k) front (omega (arith, n)) (omega arith) (omega arith)))

pub returns : goal.returns
unfolding packet_shape
returns c = filled_all c.loop-row.invariant (omega arith)
