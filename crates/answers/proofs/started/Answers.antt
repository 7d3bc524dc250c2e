-- The checks in their order, the start before the room, then both passes. Assumes nothing.
use Rattle.tables.proofs.Kit.{refl, sym, ap, subst₂, inl, inr, arith}
use Rattle.tables.specs.{Document.{Document, node_count, of_lists}, Pattern.shape_of, declared.Pattern.Pattern}
use Rattle.placing.specs.Answer.{In}
use Rattle.answers.specs.Answers.{Found}
use Rattle.answers.proofs.started.Goals as goal
use Rattle.answers.proofs.started.Goals.{then-p-ne0-via-then-p-ne0, then-p-ne0-via-else-p-ne0+then-not-starts_right}
use Rattle.answers.proofs.started.Goals.{then-list-n-via-then-list-n, then-list-n-via-else-list-n+then-work-n}

-- the third check is of the start
pub returns-then-p-ne0 : goal.returns-then-p-ne0
returns-then-p-ne0 c =
    let e = ap node_count (sym c.in_ok-d.ensures.1) in (
      inr (
        c.in_ok-pattern.ensures.0.0,
        inr (
          c.in_ok-d.ensures.0.0,
          inl (
            λ w. elim c.then-p-ne0.branch [
              | then-p-ne0-via-then-p-ne0 q ↦ q.if-p-ne0.true w.0
              | then-p-ne0-via-else-p-ne0+then-not-starts_right q ↦
                  rw q.if-not-starts_right.true at ((q.starts_right.ensures (of_lists c.args.document) e).1 w.1)
            ],
            refl,
          ),
        ),
      ),
      (refl, refl),
    )

-- the fourth is that both lists have room
pub returns-then-list-n : goal.returns-then-list-n
returns-then-list-n c =
    let e = ap node_count (sym c.in_ok-d.ensures.1) in (
      inr (
        c.in_ok-pattern.ensures.0.0,
        inr (
          c.in_ok-d.ensures.0.0,
          inr (
            (c.if-p-ne0.false, (c.starts_right.ensures (of_lists c.args.document) e).0 (rw c.if-not-starts_right.false tt)),
            inl (
              λ w. elim c.then-list-n.branch [
                | then-list-n-via-then-list-n q ↦ omega (arith, w.0, e)
                | then-list-n-via-else-list-n+then-work-n q ↦ omega (arith, w.1, e)
              ],
              refl,
            ),
          ),
        ),
      ),
      (refl, refl),
    )

pub find_started-requires-clause-by_index : goal.find_started-requires-clause-by_index
find_started-requires-clause-by_index c =
    ((c.starts_right.ensures (of_lists c.in_ok-d.d.lists) refl).0 (rw c.if-not-starts_right.false tt)).nodes

pub returns : goal.returns
returns c =
    let e = ap node_count (sym c.in_ok-d.ensures.1) in (
      (
        c.in_ok-pattern.ensures.0.0,
        (
          c.in_ok-d.ensures.0.0,
          (
            (c.if-p-ne0.false, (c.starts_right.ensures (of_lists c.args.document) e).0 (rw c.if-not-starts_right.false tt)),
            ((omega (arith, e), omega (arith, e)), tt),
          ),
        ),
      ),
      subst₂ (λ (p : Pattern) (d : Document). Found (shape_of p) d (In c.args.starts.now) c.args.list.now c.args.work.now c.find_started.result
          c.find_started.new.list c.find_started.new.work) c.in_ok-pattern.ensures.1 c.in_ok-d.ensures.1 c.find_started.ensures,
    )
