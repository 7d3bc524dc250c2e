-- `packets::put_pattern` meets its contract: the header and the steps before the one looked at are written. Assumes nothing.
use Rattle.tables.proofs.Kit.{take}
use Rattle.std.specs.Iterator.Adapters.{enumerate_count, enumerate_source, zip_first, zip_second}
use Rattle.std.specs.Slice.Iter.{iter_rest}
use Rattle.tables.specs.Pattern.{shape_of}
use Rattle.packets.specs.PatternPacket.{step_bytes}
use Rattle.packets.proofs.Turns.{Left}
use Rattle.halves.proofs.Rows.{RowsPut}
use Rattle.packets.proofs.put_pattern.Given as goal

abbrev pub invariant-loop-k : goal.invariant-loop-k
invariant-loop-k l =
    let p = l.fn.p.table.now in
    let k = enumerate_count l.k-iterator in
    let steps = enumerate_source l.k-iterator in
    record {
      rows : RowsPut (step_bytes (shape_of p)) 4 4 l.initial.out k l.out;
      parents : Left (take p.count p.parent) k (iter_rest (zip_first (zip_first steps)));
      axes : Left (take p.count p.axis) k (iter_rest (zip_second (zip_first steps)));
      labels : Left (take p.count p.label) k (iter_rest (zip_second steps));
    }
