-- `containment::contains_right` meets its contract: a free label, the room, and then whether there is a mapping. Assumes nothing.
use Rattle.tables.proofs.Kit.{refl, ⊎_elim, arith, length}
use Rattle.std.proofs.Common.{rules}
use Rattle.tables.specs.{Column.{blocks, step_array}, Pattern.shape_of}
use Rattle.tables.proofs.Kept.{kept_pattern}
use Rattle.containment.specs.{Witness.{Fresh}}
use Rattle.containment.proofs.Answering.{fresh_found, missing_refuses, room_refuses, all_pass}
use Rattle.containment.proofs.contains_right.Goals as goal
use Rattle.containment.proofs.contains_right.Goals.{In_ok-label, Else-labels-m}

-- past the first test a label is free
free : (c : In_ok-label) → let a = c.args in Fresh (shape_of a.a.table.now) (shape_of a.b.table.now) c.in_ok-label.label
free c = fresh_found _ _ c.fresh.result c.in_ok-label.label c.in_ok-label.ensures.value c.fresh.ensures

pub returns-in_err-label : goal.returns-in_err-label
returns-in_err-label c =
    let a = c.args in
    let h = missing_refuses a.a.table.now a.b.table.now (length a.parents.now) (length a.labels.now) (kept_pattern a.a.right) (kept_pattern a.b.right)
    c.fresh.result c.fresh.ensures in
    search (rules, h)

pub returns-then-parents-m : goal.returns-then-parents-m
returns-then-parents-m c =
    let a = c.args in (
      room_refuses a.a.table.now a.b.table.now (length a.parents.now) (length a.labels.now) (kept_pattern a.a.right) (kept_pattern a.b.right) _
          (free (goal.at.returns-then-parents-m c).In_ok-label) (λ w. ⊎_elim (λ q. omega arith) (λ q. omega arith) c.then-parents-m.either),
      (refl, refl),
    )

pub returns-in-Some : goal.returns-in-Some
returns-in-Some c =
    let a = c.args in (
      all_pass a.a.table.now a.b.table.now (length a.parents.now) (length a.labels.now) (kept_pattern a.a.right) (kept_pattern a.b.right) _
          (free (goal.at.returns-in-Some c).In_ok-label) (omega arith) (omega arith),
      (c.in-Some.ensures, refl, refl),
    )

pub returns : goal.returns
unfolding step_array blocks
returns c =
    let a = c.args in
    let f = free (goal.at.returns c).In_ok-label in
    let w = c.write_witness-nodes.ensures in (
      all_pass a.a.table.now a.b.table.now (length a.parents.now) (length a.labels.now) (kept_pattern a.a.right) (kept_pattern a.b.right) _ f
          (omega arith) (omega arith),
      (
        record {
          not_contained = c.in_default.ensures;
          label = c.in_ok-label.label;
          fresh = f;
          count = w.count;
          node = c.own_node-answer.ensures;
          parent_list = w.parents;
          label_list = w.labels;
        },
        refl,
      ),
    )
