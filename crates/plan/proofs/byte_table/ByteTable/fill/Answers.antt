-- `ByteTable::fill` meets its contract. The loop's invariant: the table is that of the first t steps. Assumes nothing.
use Rattle.tables.proofs.Kit.{ℕ, ◌+◌, ◌*◌, ◌-◌, ◌/◌, ◌%◌, ◌^◌, arith, pow_mono, get_or}
use Rattle.tables.proofs.{Bits.shl_one, Marks.marks_bits}
use Rattle.plan.proofs.Bytes.{spread_none, spread_more, doubled_in}
use Rattle.plan.proofs.byte_table.ByteTable.fill.Goals as goal

pub loop-t-init : goal.loop-t-init
loop-t-init c = rw c.requires.1 (spread_none _)

pub loop-t-preserved : goal.loop-t-preserved
loop-t-preserved c =
    let t = c.loop-t.t in
    let table = c.loop-t.self.entries in
    let base : ℕ = 256 * (t / 8) in
    let top : ℕ = 2 ^ (t % 8) in
    let m = get_or c.args.to.now t 0 in
    let most = pow_mono {i = t % 8} {j = 7} (omega arith) in
    let e = shl_one (t % 8) (omega arith) in
    rw e (spread_more _ t m table _ (omega arith) c.loop-t.invariant (marks_bits m)
    (doubled_in table c.double.new.block base top m (base + 2 * top - base) (omega arith) (omega (arith, c.loop-t.invariant.size))
    (rw e at c.double.ensures)))
