-- `containment::witness::write_witness` meets its contract: the steps before s are written. Assumes nothing.
use Rattle.tables.proofs.Kit.{ℕ, ◌+◌, ◌≤◌, ◌<◌, ◌≡◌, refl, ◌⊎◌, inl, inr, arith, length-set}
use Rattle.tables.specs.{Column.node_no, Pattern.{shape_of, ValidPattern}}
use Rattle.tables.proofs.{Kept.kept_pattern, MarkTables.parent_few}
use Rattle.containment.specs.Witness.{hook, witness_of}
use Rattle.containment.proofs.{Nodes.descendants_le, WitnessSteps.{Front, front_none, nodes_more, hook_is}}
use Rattle.containment.proofs.{WitnessSteps.{front_more, front_room}, Contained.{axes, witness_few}}
use Rattle.containment.proofs.witness.write_witness.Goals as goal
use Rattle.containment.proofs.witness.write_witness.Goals.{In-loop-s, After-write_step-m, then-s-eq0, else-s-eq0}

-- its step is one of the pattern's, so one of 64
few : (x : In-loop-s) → x.loop-s.s < 64
few x = omega (arith, (kept_pattern x.args.a.right).few)

at_most : {a : ℕ} → (a ≡ 0) ⊎ (a ≡ 1) → a ≤ 1
at_most (inl e) = omega arith
at_most (inr e) = omega arith

pub loop-s-init : goal.loop-s-init
loop-s-init c = (front_none _ _ _ _, refl, λ k g. absurd (omega arith))

pub write_step-m-requires : goal.write_step-m-requires
write_step-m-requires c =
    let l = c.loop-s in
    let v : ValidPattern c.args.a.table.now = kept_pattern c.args.a.right in
    let r = front_room (shape_of c.args.a.table.now) v l.s c.loop-s-test.true in
    let p = l.invariant.0.place in
    let k = l.auto in (
      omega (arith, witness_few v),
      at_most (axes v l.s c.loop-s-test.true),
      omega (arith, k.parents),
      omega (arith, k.labels),
    )

-- the hook is the step's
hooked : (c : After-write_step-m) → c.if-s-eq0.hook ≡ node_no (hook (shape_of c.args.a.table.now) c.loop-s.s)
hooked c =
    let l = c.loop-s in
    let h = hook_is (shape_of c.args.a.table.now) (kept_pattern c.args.a.right) l.s c.if-s-eq0.hook l.nodes c.loop-s-test.true l.invariant.2 in
    elim c.if-s-eq0.branch [
      | then-s-eq0 w ↦ h (λ e. w.hook-is) (λ g. absurd (omega arith))
      | else-s-eq0 w ↦ h (λ e. absurd (w.if-s-eq0.false e)) (λ g. rw w.from.ensures at w.hook-is)
    ]

-- the first steps up to step s are written, when it is
written : (c : After-write_step-m) → let w = c.write_step-m in
    let a = c.args in
    Front (shape_of a.a.table.now) a.l (c.loop-s.s + 1) w.result a.parents.now a.labels.now w.new.parents w.new.labels
written c =
    let l = c.loop-s in
    front_more (shape_of c.args.a.table.now) (kept_pattern c.args.a.right) c.args.l l.s l.m _ _ _ _ _ _ _ c.loop-s-test.true l.invariant.0
    (rw (hooked c) at c.write_step-m.ensures) c.requires.0 c.requires.1

pub overflow_cast-nodes : goal.overflow_cast-nodes
overflow_cast-nodes c =
    let g = goal.at.overflow_cast-nodes c in
    let l = c.loop-s in
    let v : ValidPattern c.args.a.table.now = kept_pattern c.args.a.right in
    let d = descendants_le (shape_of c.args.a.table.now) (axes v) (l.s + 1) (omega (arith, c.loop-s-test.true)) in
    omega (arith, (written g.After-write_step-m).place, d, few g.In-loop-s)

pub loop-s-preserved : goal.loop-s-preserved
loop-s-preserved c =
    let g = goal.at.loop-s-preserved c in
    let l = c.loop-s in
    let f = written g.After-write_step-m in
    (f, simp length-set l.invariant.1, nodes_more _ l.s _ l.nodes (omega (arith, few g.In-loop-s)) f.place l.invariant.2)

pub returns : goal.returns
unfolding witness_of
returns c =
    let e : c.loop-s.s ≡ c.args.a.table.now.count = omega arith in
    let f = rw e at c.loop-s.invariant.0 in
    record { count = f.place; parents = f.parent_list; labels = f.label_list }

pub bounds-nodes-from : goal.bounds-nodes-from
bounds-nodes-from c =
    let l = c.loop-s in
    omega (arith, c.from.ensures, parent_few (shape_of c.args.a.table.now) (kept_pattern c.args.a.right) l.s (omega arith) c.loop-s-test.true)
