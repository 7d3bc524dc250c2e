-- `joining::join_table` meets its contract: the steps before the one looked at are written, in three loops, one for each part of the join. Assumes nothing.
use Rattle.tables.proofs.Kit.{ℕ, ◌+◌, ◌-◌, ◌≤◌, ◌<◌, ◌≡◌, refl, sym, subst, ◌∙◌, arith, get_or}
use Rattle.tables.specs.{Column.step_no, Pattern.{shape_of, ValidPattern, pushed}, declared.Pattern.Pattern, declared.StepNo.StepNo}
use Rattle.tables.proofs.{Trees.parent_lt, Rules.shape_ordered, Filling.{Filled, filled_none, filled_next, filled_all}}
use Rattle.joining.specs.Join.{join_shape, join_of}
use Rattle.joining.proofs.Parts.{part_front, part_middle, part_rest}
use Rattle.joining.proofs.join_table.Goals as goal

-- a later step's parent is a step before it
before : (p : Pattern) → ValidPattern p → (s : ℕ) → 0 < s → s < p.count → (get_or p.parent s (step_no 0)).0 < s
before p v s = parent_lt (shape_ordered v) s

pub loop-s-init : goal.loop-s-init
unfolding join_shape
loop-s-init c = (
  omega arith,
  filled_none (join_shape (shape_of c.args.v.now) (shape_of c.args.e.now)) c.no_pattern-p.result (record { 0 = c.args.v.now.output.0 + c.args.e.now.output.0 })
      c.no_pattern-p.ensures refl (omega arith),
)

pub loop-s-preserved : goal.loop-s-preserved
unfolding join_shape
loop-s-preserved c =
    let s : ℕ = c.loop-s.s in
    let l : s ≤ c.args.v.now.output.0 = omega arith in (
      omega arith,
      subst (Filled (join_shape (shape_of c.args.v.now) (shape_of c.args.e.now)) (s + 1)) (sym c.push.ensures)
          (filled_next _ _ _ c.loop-s.invariant.1 (omega arith) (sym (part_front _ _ _ _ _ _ l)) (sym (part_front _ _ _ _ _ _ l))
          (sym (part_front _ _ _ _ _ _ l))),
    )

pub overflow_add-o : goal.overflow_add-o
overflow_add-o c = omega (arith, before c.args.e.now c.requires.1.0 c.loop-t.t (omega arith) (omega arith))

pub loop-t-preserved : goal.loop-t-preserved
unfolding join_shape
loop-t-preserved c =
    let v = c.args.v.now in let e = c.args.e.now in
    let t : ℕ = c.loop-t.t in let o : ℕ = v.output.0 in
    let l : o < o + t = omega arith in
    let m : o + t ≤ o + (e.count - 1) = omega arith in
    let z : o + t - o ≡ t = omega arith in
    let y : c.from-last.result ≡ o = c.from-last.ensures in
    let x : StepNo = record { 0 = o + (get_or e.parent t (step_no 0)).0 } in
    let n = c.push-in-loop-t in (
      omega arith,
      subst (Filled (join_shape (shape_of v) (shape_of e)) (c.from-last.result + (t + 1))) (sym n.ensures)
          (subst (λ (k : ℕ). Filled (join_shape (shape_of v) (shape_of e)) k (pushed c.loop-t.p x (get_or e.axis t 0) (get_or e.label t 0))) (omega arith)
          (filled_next x (get_or e.axis t 0) (get_or e.label t 0) c.loop-t.invariant.1 (omega arith)
          (rw y (sym (part_middle _ _ _ _ _ _ l m ∙ rw z refl)))
          (rw y (sym (part_middle _ _ _ _ _ _ l m ∙ rw z refl)))
          (rw y (sym (part_middle _ _ _ _ _ _ l m ∙ rw z refl))))),
    )

pub renumbered-requires : goal.renumbered-requires
renumbered-requires c = omega (arith, before c.args.v.now c.requires.0 c.loop-s-2.s (omega arith) (omega arith))

pub loop-s-2-preserved : goal.loop-s-2-preserved
unfolding join_shape
loop-s-2-preserved c =
    let v = c.args.v.now in let e = c.args.e.now in
    let s : ℕ = c.loop-s-2.s in let m : ℕ = e.count - 1 in
    let l : v.output.0 + m < s + m = omega arith in
    let z : s + m - m ≡ s = omega arith in
    let x : StepNo = c.renumbered.result in (
      omega arith,
      subst (Filled (join_shape (shape_of v) (shape_of e)) (s + 1 + m)) (sym c.push-in-loop-s-2.ensures)
          (subst (λ (k : ℕ). Filled (join_shape (shape_of v) (shape_of e)) k (pushed c.loop-s-2.p x (get_or v.axis s 0) (get_or v.label s 0))) (omega arith)
          (filled_next x (get_or v.axis s 0) (get_or v.label s 0) c.loop-s-2.invariant.1 (omega arith)
          (c.renumbered.ensures ∙ sym (part_rest _ _ _ _ _ _ l ∙ rw z refl))
          (sym (part_rest _ _ _ _ _ _ l ∙ rw z refl))
          (sym (part_rest _ _ _ _ _ _ l ∙ rw z refl)))),
    )

pub returns : goal.returns
unfolding join_shape join_of
returns c = filled_all c.loop-s-2.invariant.1 (omega arith)
