-- `containment::choosing::choose` meets its contract: the steps before t have their images in the array. Assumes nothing.
use Rattle.tables.proofs.Kit.{ℕ, ◌<◌, ◌≡◌, ap, ◌∙◌, arith, get_or}
use Rattle.tables.specs.{Column.step_no, Pattern.{shape_of, ValidPattern}, declared.StepNo.StepNo}
use Rattle.tables.proofs.{Choice.upd, Columns.steps_at, Kept.kept_pattern, Rules.shape_ordered, Trees.parent_lt}
use Rattle.placing.proofs.Fit.{able_ok}
use Rattle.mappings.specs.Fits.{Picks, ImageAt}
use Rattle.mappings.proofs.{Images.own_steps, StepFits.map_task}
use Rattle.containment.proofs.Greedily.{mapping_one, mapping_more, chose_start, chose_more, image_there, image_some, chose_end}
use Rattle.containment.proofs.choosing.choose.Goals as goal
use Rattle.containment.proofs.choosing.choose.Goals.{In-loop-t, After-from, After-next_image-image}

pub loop-t-init : goal.loop-t-init
loop-t-init c =
    let vb : ValidPattern c.args.b.table.now = kept_pattern c.args.b.right in
    let r = c.args.first in
    (omega arith, vb.some, (λ u. r.0, mapping_one r.0, chose_start _ _ vb (kept_pattern c.args.a.right) r c.requires.picks))

-- the parent step of the step looked at
abbrev over : In-loop-t → ℕ
over x = (shape_of x.args.b.table.now).tree.parent x.loop-t.t

-- it comes before, its image stands in the array, and the image is a step of a
up : (x : In-loop-t) → over x < x.loop-t.t
up x = parent_lt (shape_ordered (kept_pattern x.args.b.right)) x.loop-t.t x.loop-t.invariant.0 x.loop-t-test.true

image : (x : In-loop-t) → (get_or x.loop-t.mapping (over x) (step_no 0)).0 ≡ x.loop-t.invariant.2.0 (over x)
image x =
    let i = x.loop-t.invariant.2 in
    ap (λ m. (get_or m (over x) (step_no 0)).0) i.1 ∙ ap (λ (s : StepNo). s.0) (steps_at i.0 x.loop-t.t (over x) (up x))

small : (x : In-loop-t) → (get_or x.loop-t.mapping (over x) (step_no 0)).0 < x.args.a.table.now.count
small x = rw (image x) (able_ok (map_task (shape_of x.args.b.table.now) (shape_of x.args.a.table.now)) (x.loop-t.invariant.2.2.can _ (up x))).0.here

pub next_image-image-requires : goal.next_image-image-requires
next_image-image-requires c =
    let vb : ValidPattern c.args.b.table.now = kept_pattern c.args.b.right in
    ((kept_pattern c.args.a.right).few, omega (arith, vb.few), rw c.from.ensures (small (goal.at.next_image-image-requires c).In-loop-t))

-- what was picked, by the image of the parent step
picks : (c : After-next_image-image) → let l = c.loop-t in
    let B = shape_of c.args.b.table.now in
    let o = B.tree.parent l.t in
    (get_or l.mapping o (step_no 0)).0 ≡ l.invariant.2.0 o
    → Picks (ImageAt (shape_of c.args.a.table.now) c.args.fit.now l.t (B.axis l.t) (l.invariant.2.0 o)) c.next_image-image.result
picks c e =
    let l = c.loop-t in
    let i = l.invariant.2 in
    (rw (c.from.ensures, e) at c.next_image-image.ensures (shape_of c.args.a.table.now) (own_steps (kept_pattern c.args.a.right)))
    (image_there _ _ (kept_pattern c.args.b.right) (kept_pattern c.args.a.right) c.args.fit.now c.requires.fit_table l.t i.0 l.invariant.0 (omega arith) i.2)

pub unwrap-requires : goal.unwrap-requires
unwrap-requires c =
    let g = goal.at.unwrap-requires c in
    let l = c.loop-t in
    let i = l.invariant.2 in
    image_some _ _ (kept_pattern c.args.b.right) (kept_pattern c.args.a.right) c.args.fit.now c.requires.fit_table l.t i.0 l.invariant.0 (omega arith) i.2
    (picks g.After-next_image-image (image g.In-loop-t))

pub loop-t-preserved : goal.loop-t-preserved
loop-t-preserved c =
    let vb : ValidPattern c.args.b.table.now = kept_pattern c.args.b.right in
    let l = c.loop-t in
    let i = l.invariant.2 in
    let r = c.unwrap.result in
    let g = goal.at.loop-t-preserved c in (
      omega arith,
      omega arith,
      (
        upd i.0 l.t r.0,
        rw i.1 (mapping_more i.0 l.t r.0 (omega (arith, vb.few))),
        chose_more _ _ vb (kept_pattern c.args.a.right) c.args.fit.now c.requires.fit_table l.t i.0 l.invariant.0 (omega arith) i.2 r
            (rw c.unwrap.ensures at (picks g.After-next_image-image (image g.In-loop-t))),
      ),
    )

pub returns : goal.returns
returns c =
    let i = c.loop-t.invariant.2 in
    let e : c.loop-t.t ≡ c.args.b.table.now.count = omega arith in
    record { by = i.0; least = chose_end _ _ (kept_pattern c.args.b.right) (kept_pattern c.args.a.right) i.0 (rw e at i.2); array = rw e at i.1 }

pub bounds-mapping-from : goal.bounds-mapping-from
bounds-mapping-from c =
    let vb : ValidPattern c.args.b.table.now = kept_pattern c.args.b.right in
    omega (arith, up (goal.at.bounds-mapping-from c).In-loop-t, c.from.ensures, vb.few)
