-- `packets::put_document` meets its contract: the header and the nodes before the one looked at are written. Assumes nothing.
use Rattle.tables.proofs.Kit.{◌+◌, ◌*◌, ◌≡◌, refl, ◌∙◌, ⊎_elim, arith}
use Rattle.std.specs.Iterator.Adapters.{enumerate_count}
use Rattle.tables.specs.Document.{node_count, of_lists}
use Rattle.packets.specs.DocumentPacket.{node_bytes, document_packet, size_of}
use Rattle.packets.proofs.{DocumentTrip.{head, node_four}, Turns.{left_all, left_next, left_none, entry}}
use Rattle.halves.proofs.Rows.{rows_none, rows_next, rows_all}
use Rattle.packets.proofs.put_document.Goals as goal

pub loop-i-init : goal.loop-i-init
loop-i-init c =
    let e = c.enumerate-i-items.ensures in
    rw (c.into_iter-i-iterator.ensures.into_iter_gives, e.count) record {
      rows = rows_none _ 3 4 _;
      parents = left_all _ (rw e.source (cc));
      labels = left_all _ (rw e.source (cc));
    }

pub loop-i-preserved : goal.loop-i-preserved
unfolding node_bytes
loop-i-preserved c =
    let s = c.in-Some.ensures.steps in
    let l = c.loop-i in
    let v = l.invariant in
    let d = of_lists c.args.lists in
    rw s.2 record {
      rows = rows_next (node_bytes d) 3 4 _ (enumerate_count l.i-iterator) l.out _ (omega arith) (node_four d) c.put_node.auto.out
          (rw (s.1, entry 0 v.parents s.0.0, entry 0 v.labels s.0.1) at c.put_node.ensures) v.rows;
      parents = left_next v.parents s.0.0;
      labels = left_next v.labels s.0.1;
    }

pub returns : goal.returns
unfolding document_packet
returns c =
    let l = c.loop-i in
    let k = enumerate_count l.i-iterator in
    let d = of_lists c.args.lists in
    let f : k ≡ node_count d = ⊎_elim (λ u. left_none l.invariant.parents u.1.0) (λ u. left_none l.invariant.labels u.1.0 ∙ c.requires.1)
    c.in-None.ensures.steps.0 in
    let e : 3 + 4 * k ≡ size_of d = omega arith in
    rw (e, f) at (rows_all (node_bytes d) 3 4 _ (head d) c.args.out.now l.out k refl c.put_head.ensures l.invariant.rows)
