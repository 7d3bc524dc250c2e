-- `packets::put_document` meets its contract: the header and the nodes before the one looked at are written. Assumes nothing.
use Rattle.std.specs.Iterator.Adapters.{enumerate_count, enumerate_source, zip_first, zip_second}
use Rattle.std.specs.Slice.Iter.{iter_rest}
use Rattle.tables.specs.Document.{of_lists}
use Rattle.packets.specs.DocumentPacket.{node_bytes}
use Rattle.packets.proofs.Turns.{Left}
use Rattle.halves.proofs.Rows.{RowsPut}
use Rattle.packets.proofs.put_document.Given as goal

abbrev pub invariant-loop-i : goal.invariant-loop-i
invariant-loop-i l = record {
  rows : RowsPut (node_bytes (of_lists l.fn.lists)) 3 4 l.initial.out (enumerate_count l.i-iterator) l.out;
  parents : Left l.fn.lists.parents.now (enumerate_count l.i-iterator) (iter_rest (zip_first (enumerate_source l.i-iterator)));
  labels : Left l.fn.lists.labels.now (enumerate_count l.i-iterator) (iter_rest (zip_second (enumerate_source l.i-iterator)));
}
