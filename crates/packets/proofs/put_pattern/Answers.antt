-- `packets::put_pattern` meets its contract: the header and the steps before the one looked at are written. Assumes nothing.
use Rattle.tables.proofs.Kit.{ℕ, ◌+◌, ◌*◌, ◌≤◌, ◌≡◌, refl, ap, ◌∙◌, ⊎_elim, List, [], ◌∷◌, ◌++◌, arith, length, set, drop, length-set}
use Rattle.std.specs.Iterator.Adapters.{enumerate_count}
use Rattle.tables.specs.{Column.step_no, Pattern.{Shape, shape_of}}
use Rattle.tables.proofs.{Columns.put_next}
use Rattle.halves.specs.Bytes.{high, low}
use Rattle.packets.specs.PatternPacket.{pattern_length, pattern_packet, step_bytes}
use Rattle.packets.proofs.{PatternTrip.{head, step_four}, Turns.{left_all, left_next, left_none, entry_of_front}}
use Rattle.halves.proofs.Rows.{RowsPut, rows_none, rows_next, rows_all}
use Rattle.packets.proofs.put_pattern.Goals as goal

-- the header, and then the steps
all : (A : Shape) (x start room out : List ℕ) → 4 ≤ length x → start ≡ (1 ∷ high (pattern_length A.tree.size) ∷ low (pattern_length A.tree.size) ∷ [])
    ++ drop 3 x
    → room ≡ set start 3 A.output → RowsPut (step_bytes A) 4 4 room A.tree.size out → out ≡ pattern_packet A ++ drop (pattern_length A.tree.size + 3) x
unfolding pattern_packet
all A x start room out l e f r =
    let m : 4 + 4 * A.tree.size ≡ pattern_length A.tree.size + 3 = omega arith in
    rw m at (rows_all (step_bytes A) 4 4 room (head A) x out A.tree.size refl
    (f ∙ ap (λ y. set y 3 A.output) e ∙ put_next (1 ∷ high (pattern_length A.tree.size) ∷ low (pattern_length A.tree.size) ∷ []) x 3 A.output refl
    (omega arith)) r)

pub loop-k-init : goal.loop-k-init
loop-k-init c =
    let e = c.enumerate-k-items.ensures in
    rw (c.into_iter-k-iterator.ensures.into_iter_gives, e.count) record {
      rows = rows_none _ 4 4 _;
      parents = left_all _ (rw e.source (cc));
      axes = left_all _ (rw e.source (cc));
      labels = left_all _ (rw e.source (cc));
    }

pub loop-k-preserved : goal.loop-k-preserved
unfolding step_bytes
loop-k-preserved c =
    let s = c.in-Some.ensures.steps in
    let l = c.loop-k in
    let v = l.invariant in
    let p = c.args.p.table.now in
    let A = shape_of p in
    rw s.2 record {
      rows = rows_next (step_bytes A) 4 4 _ (enumerate_count l.k-iterator) l.out _ (simp length-set (omega (arith, c.put_head.auto.out))) (step_four A)
          c.put_step.auto.out
          (rw (
            s.1,
            entry_of_front p.parent p.count (step_no 0) v.parents s.0.0.0,
            entry_of_front p.axis p.count 0 v.axes s.0.0.1,
            entry_of_front p.label
                p.count 0 v.labels s.0.1,
          ) at c.put_step.ensures) v.rows;
      parents = left_next v.parents s.0.0.0;
      axes = left_next v.axes s.0.0.1;
      labels = left_next v.labels s.0.1;
    }

pub returns : goal.returns
returns c =
    let l = c.loop-k in let v = l.invariant in
    let k = enumerate_count l.k-iterator in
    let a = c.args in
    let p = a.p.table.now in
    let e : k ≡ p.count =
    ⊎_elim (λ u. ⊎_elim (λ w. omega (arith, left_none v.parents w.1.0)) (λ w. omega (arith, left_none v.axes w.1.0)) u.1)
    (λ u. omega (arith, left_none v.labels u.1.0)) c.in-None.ensures.steps.0 in
    all (shape_of p) a.out.now _ _ l.out (omega arith) c.put_head.ensures refl (rw e at v.rows)
