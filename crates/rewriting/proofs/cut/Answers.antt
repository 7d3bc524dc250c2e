-- `rewriting::cut` meets its contract: step 0 is written first, then the steps before the one looked at. Assumes nothing.
use Rattle.tables.proofs.Kit.{ℕ, ◌+◌, ◌-◌, ◌≤◌, ◌<◌, ◌≡◌, refl, sym, ap, ◌∙◌, subst, arith, get_or}
use Rattle.tables.specs.{Column.step_no, Pattern.{shape_of, zero_pattern, table_of, pushed}, declared.Pattern.Pattern, declared.StepNo.StepNo}
use Rattle.tables.proofs.{Filling.{Filled, filled_none, filled_next, filled_all}, Kept.kept_pattern}
use Rattle.rewriting.proofs.{Cuts.{cut_shape, at_late}, CutTable.{cut_here, cut_is, cut_rules, whole_size, cut_late}}
use Rattle.rewriting.proofs.cut.Goals as goal
use Rattle.rewriting.proofs.cut.Goals.{Start, After-cut_size-n, In-loop-t}

-- step c is one of the pattern's, and not past the output step
low : (x : Start) → (x.args.c.0 < x.args.q.table.now.count) × (x.args.c.0 ≤ x.args.q.table.now.output.0)
low x =
    let v = kept_pattern x.args.q.right in
    (cut_here x.args.q.table.now v x.args.c.0 x.requires, omega (arith, (cut_is x.args.q.table.now v x.args.c.0 x.requires).output))

-- the number of steps is the cut's
sized : (x : After-cut_size-n) → x.cut_size-n.result ≡ (cut_shape (shape_of x.args.q.table.now) x.args.c.0).tree.size
sized x = whole_size x.args.q.table.now (kept_pattern x.args.q.right) x.args.c.0 x.requires x.cut_size-n.result x.cut_size-n.ensures

-- the step looked at is one of the pattern's, and hangs on c or later
late : (x : In-loop-t) → x.cut_size-n.result ≡ (cut_shape (shape_of x.args.q.table.now) x.args.c.0).tree.size → let q = x.args.q.table.now in
    (x.loop-t.t < q.count) × (x.args.c.0 ≤ (get_or q.parent x.loop-t.t (step_no 0)).0) × (x.loop-t.t < 64)
late x e =
    let q = x.args.q.table.now in let v = kept_pattern x.args.q.right in
    let h = cut_late q v x.args.c.0 x.requires (x.loop-t.t - x.args.c.0) (omega arith) (omega (arith, e)) in
    let z : x.args.c.0 + (x.loop-t.t - x.args.c.0) ≡ x.loop-t.t = omega arith in
    let f : x.loop-t.t < q.count = omega (arith, h.0) in
    (f, subst (λ (k : ℕ). x.args.c.0 ≤ (get_or q.parent k (step_no 0)).0) z h.1, omega (arith, f, v.few))

pub cut_size-n-requires : goal.cut_size-n-requires
cut_size-n-requires c = (low (goal.at.cut_size-n-requires c).Start).0

pub overflow_sub-p : goal.overflow_sub-p
overflow_sub-p c = (low (goal.at.overflow_sub-p c).Start).1

pub bounds-q-row : goal.bounds-q-row
bounds-q-row c = omega (arith, (low (goal.at.bounds-q-row c).Start).0, (kept_pattern c.args.q.right).few)

pub push-requires : goal.push-requires
unfolding zero_pattern table_of
push-requires c = omega (arith, ap (λ (p : Pattern). p.count) c.no_pattern-p.ensures)

pub overflow_add-t-end : goal.overflow_add-t-end
overflow_add-t-end c =
    let v = kept_pattern c.args.q.right in
    let e = sized (goal.at.overflow_add-t-end c).After-cut_size-n in
    let r = cut_rules c.args.q.table.now v c.args.c.0 c.requires in
    omega (arith, e, r.few, (low (goal.at.overflow_add-t-end c).Start).0, v.few)

pub loop-t-init : goal.loop-t-init
unfolding cut_shape
loop-t-init c =
    let q = c.args.q.table.now in
    let k = c.args.c.0 in
    let A = cut_shape (shape_of q) k in
    let v = cut_rules q (kept_pattern c.args.q.right) k c.requires in
    let z : k ≡ k + 0 = omega arith in
    let y : 0 + 1 ≡ k + 1 - k = omega arith in (
      omega arith,
      rw (c.push.ensures, c.from-row.ensures)
          (subst (λ (n : ℕ). Filled A n (pushed (record c.no_pattern-p.result { output = step_no (q.output.0 - k) }) (step_no 255) 0 (get_or q.label k 0))) y
          (filled_next (step_no 255) 0 (get_or q.label k 0) (filled_none A c.no_pattern-p.result (step_no (q.output.0 - k)) c.no_pattern-p.ensures refl v.few)
          v.some refl refl (ap (λ y. get_or q.label y 0) z))),
    )

pub bounds-q-t : goal.bounds-q-t
bounds-q-t c = let g = goal.at.bounds-q-t c in (late g.In-loop-t (sized g.After-cut_size-n)).2

pub overflow_sub-q : goal.overflow_sub-q
overflow_sub-q c = let g = goal.at.overflow_sub-q c in (late g.In-loop-t (sized g.After-cut_size-n)).1

pub bounds-q-t-in-loop-t : goal.bounds-q-t-in-loop-t
bounds-q-t-in-loop-t c = let g = goal.at.bounds-q-t-in-loop-t c in (late g.In-loop-t (sized g.After-cut_size-n)).2

pub bounds-q-t-in-loop-t-2 : goal.bounds-q-t-in-loop-t-2
bounds-q-t-in-loop-t-2 c = let g = goal.at.bounds-q-t-in-loop-t-2 c in (late g.In-loop-t (sized g.After-cut_size-n)).2

pub push-requires-in-loop-t : goal.push-requires-in-loop-t
push-requires-in-loop-t c =
    let g = goal.at.push-requires-in-loop-t c in omega (arith, c.loop-t.invariant.1.count, (late g.In-loop-t (sized g.After-cut_size-n)).2)

pub loop-t-preserved : goal.loop-t-preserved
unfolding cut_shape
loop-t-preserved c =
    let q = c.args.q.table.now in
    let k = c.args.c.0 in
    let t : ℕ = c.loop-t.t in
    let A = cut_shape (shape_of q) k in
    let g = goal.at.loop-t-preserved c in
    let e = sized g.After-cut_size-n in
    let z : k + (t - k) ≡ t = omega arith in
    let y : t - k + 1 ≡ t + 1 - k = omega arith in
    let n : 0 < t - k = omega arith in
    let x : StepNo = step_no ((get_or q.parent t (step_no 0)).0 - k) in (
      omega arith,
      subst (Filled A (t + 1 - k)) (sym c.push-in-loop-t.ensures)
          (subst (λ (m : ℕ). Filled A m (pushed c.loop-t.p x (get_or q.axis t 0) (get_or q.label t 0))) y
          (filled_next x (get_or q.axis t 0) (get_or q.label t 0) c.loop-t.invariant.1 (omega (arith, e))
          (sym (at_late (t - k) _ _ n ∙ rw z refl)) (sym (at_late (t - k) _ _ n ∙ rw z refl)) (rw z refl))),
    )

pub returns : goal.returns
returns c =
    let q = c.args.q.table.now in
    let e = sized (goal.at.returns c).After-cut_size-n in
    (cut_shape (shape_of q) c.args.c.0, cut_is q (kept_pattern c.args.q.right) c.args.c.0 c.requires, filled_all c.loop-t.invariant.1 (omega (arith, e)))
