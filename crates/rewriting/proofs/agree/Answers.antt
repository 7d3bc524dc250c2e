-- `rewriting::agree` meets its contract: the steps looked at stand as deep as each other in the two main paths. Assumes nothing.
use Rattle.tables.proofs.Kit.{◌<◌, ◌≡◌, refl, sym, ap, ◌∙◌, inl, inr, ⊎_elim, arith, eq-zero-or-pos, get_or}
use Rattle.tables.specs.{Column.step_no, Pattern.{shape_of, ValidPattern}}
use Rattle.tables.proofs.Kept.{kept_pattern}
use Rattle.rewriting.proofs.Paths.{Level, level_start, query_here, view_here, level_up, labels_agree, axes_agree}
use Rattle.rewriting.proofs.agree.Goals as goal
use Rattle.rewriting.proofs.agree.Goals.{At-loop-a, Else-q-a, Else-b-eq0, then-q-a-via-then-q-a, then-q-a-via-else-q-a+then-q-a-2}

-- the steps looked at are below 64
query_few : (x : At-loop-a) → x.loop-a.s.0 < 64
query_few x = let p : ValidPattern x.args.q.table.now × ValidPattern x.args.v.table.now = (kept_pattern x.args.q.right, kept_pattern x.args.v.right) in omega
    (arith, query_here p.0 p.1 x.loop-a.invariant.0, p.0.few)

view_few : (x : At-loop-a) → x.loop-a.t.0 < 64
view_few x = let p : ValidPattern x.args.q.table.now × ValidPattern x.args.v.table.now = (kept_pattern x.args.q.right, kept_pattern x.args.v.right) in omega
    (arith, view_here p.0 p.1 x.loop-a.invariant.0, p.1.few)

-- past the test of the labels, those of the first steps are the same
first_labels : (x : Else-q-a) → let a = x.args in let v = a.v.table.now in get_or v.label v.output.0 0 ≡ get_or a.q.table.now.label a.c.0 0
first_labels x =
    let a = x.args in
    ⊎_elim (λ e. ap (λ k. get_or a.v.table.now.label k 0) (sym e.1) ∙ sym (rw (x.from-a.ensures, x.from-b.ensures) at x.if-q-a.false) ∙ ap
    (λ k. get_or a.q.table.now.label k 0) e.0) (λ e. e)
    x.loop-a.invariant.1

-- past the test of the view's step, both have parents, which stand as deep as each other
up : (x : Else-b-eq0) → let a = x.args in
    let t = (get_or a.v.table.now.parent x.loop-a.t.0 (step_no 0)).0 in
    (t < x.loop-a.t.0) × Level (shape_of a.q.table.now) (shape_of a.v.table.now) (get_or a.q.table.now.parent x.loop-a.s.0 (step_no 0)).0 t
up x =
    let p : ValidPattern x.args.q.table.now × ValidPattern x.args.v.table.now = (kept_pattern x.args.q.right, kept_pattern x.args.v.right) in
    level_up p.0 p.1 x.loop-a.invariant.0 (⊎_elim (λ e. absurd (x.if-b-eq0.false (x.from-b.ensures ∙ e))) (λ l. l) (eq-zero-or-pos x.loop-a.t.0))

pub loop-a-init : goal.loop-a-init
loop-a-init c =
    let p : ValidPattern c.args.q.table.now × ValidPattern c.args.v.table.now = (kept_pattern c.args.q.right, kept_pattern c.args.v.right) in
    let b = c.requires in
    (level_start p.0 p.1 b.0 _ b.1, inl (refl, refl))

pub returns-then-q-a : goal.returns-then-q-a
returns-then-q-a c =
    let p : ValidPattern c.args.q.table.now × ValidPattern c.args.v.table.now = (kept_pattern c.args.q.right, kept_pattern c.args.v.right) in
    let i = c.loop-a.invariant.0 in (
      λ z. absurd z,
      λ E w. elim c.then-q-a.branch [
        | then-q-a-via-then-q-a b ↦ b.if-q-a.true (rw (c.from-a.ensures, c.from-b.ensures) (labels_agree _ _ E p.0 p.1 w i))
        | then-q-a-via-else-q-a+then-q-a-2 b ↦ b.if-q-a-2.true (rw (c.from-a.ensures, c.from-b.ensures) (axes_agree _ _ E p.0 p.1 w i))
      ],
    )

pub returns-then-b-eq0 : goal.returns-then-b-eq0
returns-then-b-eq0 c = (λ z. first_labels (goal.at.returns-then-b-eq0 c).Else-q-a, λ E w. tt)

pub loop-a-preserved : goal.loop-a-preserved
loop-a-preserved c = let g = goal.at.loop-a-preserved c in (rw (c.from-a.ensures, c.from-b.ensures) (up g.Else-b-eq0).1, inr (first_labels g.Else-q-a))

pub loop-a-smaller : goal.loop-a-smaller
loop-a-smaller c = rw c.from-b.ensures (up (goal.at.loop-a-smaller c).Else-b-eq0).0

pub bounds-q-a : goal.bounds-q-a
bounds-q-a c = rw c.from-a.ensures (query_few (goal.at.bounds-q-a c).At-loop-a)

pub bounds-v-b : goal.bounds-v-b
bounds-v-b c = rw c.from-b.ensures (view_few (goal.at.bounds-v-b c).At-loop-a)

pub bounds-q-a-else-q-a : goal.bounds-q-a-else-q-a
bounds-q-a-else-q-a c = rw c.from-a.ensures (query_few (goal.at.bounds-q-a-else-q-a c).At-loop-a)

pub bounds-v-b-else-q-a : goal.bounds-v-b-else-q-a
bounds-v-b-else-q-a c = rw c.from-b.ensures (view_few (goal.at.bounds-v-b-else-q-a c).At-loop-a)

pub bounds-q-a-in-loop-a : goal.bounds-q-a-in-loop-a
bounds-q-a-in-loop-a c = rw c.from-a.ensures (query_few (goal.at.bounds-q-a-in-loop-a c).At-loop-a)

pub bounds-v-b-in-loop-a : goal.bounds-v-b-in-loop-a
bounds-v-b-in-loop-a c = rw c.from-b.ensures (view_few (goal.at.bounds-v-b-in-loop-a c).At-loop-a)

pub offset_bounds-q-a : goal.offset_bounds-q-a
offset_bounds-q-a c = omega (arith, c.from-a.ensures, query_few (goal.at.offset_bounds-q-a c).At-loop-a)

pub offset_bounds-v-b : goal.offset_bounds-v-b
offset_bounds-v-b c = omega (arith, c.from-b.ensures, view_few (goal.at.offset_bounds-v-b c).At-loop-a)
