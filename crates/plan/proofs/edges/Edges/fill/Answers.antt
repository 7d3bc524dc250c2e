-- `Edges::fill` meets its contract. The loop's invariant: the sets have the steps from 1 on and below t, and these stand as bits at their parents and have
-- their own. Assumes nothing.
use Rattle.tables.proofs.Kit.{ℕ, ◌+◌, ◌<◌, ◌≡◌, refl, ⊎_elim, arith, length-replicate, length-set, get_or}
use Rattle.tables.specs.{Bits.Marks, Column.step_no, Pattern.shape_of}
use Rattle.tables.proofs.{Kept.kept_pattern, MarkTables.{Among, parent_few, children_all, among_none, among_skip, among_more, keyed_none, keyed_more}}
use Rattle.plan.proofs.Steps.{pointed_none, pointed_more, forking_none, forking_skip, forking_more, forks_all, parents_all}
use Rattle.plan.proofs.edges.Edges.fill.Goals as goal
use Rattle.plan.proofs.edges.Edges.fill.Goals.{In-loop-t, then-p-t-eq0, else-p-t-eq0, then-over-t, else-over-t}

pub loop-t-init : goal.loop-t-init
loop-t-init c = rw c.requires (
  length-replicate {A = ℕ} 64 0,
  length-replicate {A = ℕ} 64 0,
  keyed_none _ 1 64,
  pointed_none _ 64,
  among_none 1 _,
  among_none 1 _,
  among_none 1 _,
  forking_none _ 0,
)

-- the step's parent is below 64
few : (c : In-loop-t) → (get_or c.args.p.table.now.parent c.loop-t.t (step_no 0)).0 < 64
few c = parent_few (shape_of c.args.p.table.now) (kept_pattern c.args.p.right) c.loop-t.t (omega arith) c.loop-t-test.true

pub loop-t-preserved : goal.loop-t-preserved
loop-t-preserved c =
    let p = c.args.p.table.now in
    let v = kept_pattern c.args.p.right in
    let l = c.loop-t in
    let t : ℕ = l.t in
    let i = l.invariant in
    let own = c.one_bit-own.ensures in
    let up = c.one_bit-up.ensures in
    let over = c.from-over.ensures in
    let h = few (goal.at.loop-t-preserved c).In-loop-t in
    let n : t < 64 = omega (arith, v.few) in
    let some : 0 < t = omega arith in
    let f : ℕ → ℕ = λ s. (get_or p.parent s (step_no 0)).0 in
    let x : ℕ → ℕ → Type 0 = λ a s. get_or p.axis s 0 ≡ a in
    let q : ℕ → Type 0 = λ s. f s + 1 ≡ s in
    let child : Marks c.if-p-t-eq0.sets.child (Among 1 (t + 1) (x 0)) = elim c.if-p-t-eq0.branch [
      | then-p-t-eq0 w ↦ rw (w.sets-is, own) (among_more 1 (x 0) l.sets.child t some w.if-p-t-eq0.true i.4)
      | else-p-t-eq0 w ↦ rw w.sets-is (among_skip 1 (x 0) l.sets.child t w.if-p-t-eq0.false i.4)
    ] in
    let descendant : Marks c.if-p-t-eq0.sets.descendant (Among 1 (t + 1) (x 1)) = elim c.if-p-t-eq0.branch [
      | then-p-t-eq0 w ↦ rw w.sets-is (among_skip 1 (x 1) l.sets.descendant t (λ e. omega (arith, e)) i.5)
      | else-p-t-eq0 w ↦
          rw (w.sets-is, own)
          (among_more 1 (x 1) l.sets.descendant t some
          (⊎_elim (λ e. absurd (w.if-p-t-eq0.false e)) (λ e. e) (v.steps t c.loop-t-test.true).axis) i.5)
    ] in
    let next : c.if-p-t-eq0.sets.next ≡ l.sets.next = elim c.if-p-t-eq0.branch [
      | then-p-t-eq0 w ↦ rw w.sets-is refl
      | else-p-t-eq0 w ↦ rw w.sets-is refl
    ] in
    let forked : c.if-p-t-eq0.sets.forked ≡ l.sets.forked = elim c.if-p-t-eq0.branch [
      | then-p-t-eq0 w ↦ rw w.sets-is refl
      | else-p-t-eq0 w ↦ rw w.sets-is refl
    ] in (
      simp length-set i.0,
      simp length-set i.1,
      rw (over, own) (keyed_more f 1 t l.self.children some (omega arith) i.2),
      rw up (pointed_more f t l.self.parents some (omega arith) i.3),
      elim c.if-over-t.branch [ then-over-t w ↦ rw w.sets-is child | else-over-t w ↦ rw w.sets-is child ],
      elim c.if-over-t.branch [ then-over-t w ↦ rw w.sets-is descendant | else-over-t w ↦ rw w.sets-is descendant ],
      elim c.if-over-t.branch [
        | then-over-t w ↦ rw (w.sets-is, next, own) (among_more 1 q l.sets.next t some (rw over at w.if-over-t.true) i.6)
        | else-over-t w ↦ rw (w.sets-is, next) (among_skip 1 q l.sets.next t (rw over at w.if-over-t.false) i.6)
      ],
      elim c.if-over-t.branch [
        | then-over-t w ↦ rw (w.sets-is, forked) (forking_skip f t l.sets.forked (rw over at w.if-over-t.true) i.7)
        | else-over-t w ↦ rw (w.sets-is, forked, up) (forking_more f t l.sets.forked i.7)
      ],
    )

pub returns : goal.returns
returns c =
    let p = shape_of c.args.p.table.now in
    let v = kept_pattern c.args.p.right in
    let l = c.loop-t in
    let i = l.invariant in
    let e : l.t ≡ p.tree.size = omega (arith, v.some) in record {
      sets = record {
        valid = v;
        child = rw e at i.4;
        descendant = rw e at i.5;
        next = rw e at i.6;
        forked = forks_all p l.sets.forked (rw e at i.7);
      };
      down = children_all p l.self.children (rw e at i.2);
      up = parents_all p l.self.parents (rw e at i.3);
    }

pub one_bit-up-requires : goal.one_bit-up-requires
one_bit-up-requires c = few (goal.at.one_bit-up-requires c).In-loop-t

pub offset_bounds-self-over : goal.offset_bounds-self-over
offset_bounds-self-over c = omega (arith, few (goal.at.offset_bounds-self-over c).In-loop-t)

pub bounds-self-over : goal.bounds-self-over
bounds-self-over c = omega (arith, few (goal.at.bounds-self-over c).In-loop-t)

pub bounds-self-over-in-loop-t : goal.bounds-self-over-in-loop-t
bounds-self-over-in-loop-t c = omega (arith, few (goal.at.bounds-self-over-in-loop-t c).In-loop-t)

pub overflow_add-over : goal.overflow_add-over
overflow_add-over c = omega (arith, few (goal.at.overflow_add-over c).In-loop-t)
