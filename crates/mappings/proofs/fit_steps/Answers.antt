-- `mappings::fit_steps` meets its contract: the invariant is the state of the upward pass, for every pattern that the plan is of. Assumes nothing.
use Rattle.tables.proofs.Kit.{ℕ, suc, ◌-◌, ◌<◌, ◌≡◌, refl, arith, eqb}
use Rattle.tables.specs.Pattern.{shape_of, rows_of, ValidPattern}
use Rattle.tables.proofs.{Kept.kept_pattern, MarkTables.zeros_at, Rules.shape_ordered, Trees.parent_lt, Tests.tells_eq}
use Rattle.plan.specs.Rising.{entries}
use Rattle.plan.proofs.Rising.{Risen, risen_start, risen_turn, along}
use Rattle.mappings.specs.Fits.{FitsIn}
use Rattle.mappings.proofs.StepFits.{step_fits, fit_table}
use Rattle.mappings.proofs.fit_steps.Goals as goal

pub loop-i-init : goal.loop-i-init
loop-i-init c =
    let v : ValidPattern c.args.a.table.now = kept_pattern c.args.a.right in
    (v.some, omega arith, refl, λ B p o. risen_start _ _ _ _ (λ i l. (zeros_at 64 i, zeros_at 64 i)))

pub hand_up-requires : goal.hand_up-requires
hand_up-requires c =
    let v : ValidPattern c.args.a.table.now = kept_pattern c.args.a.right in
    let i = c.loop-i.invariant in
    (omega (arith, parent_lt (shape_ordered v) (c.loop-i.i - 1) (omega arith) (omega arith)), omega (arith, v.few))

pub loop-i-preserved : goal.loop-i-preserved
loop-i-preserved c =
    let P = c.args.a.table.now in
    let A = shape_of P in
    let v : ValidPattern P = kept_pattern c.args.a.right in
    let m = c.loop-i in
    let k : 1 < m.i = c.loop-i-test.true in
    let i : ℕ = m.i - 1 in
    let l : i < P.count = omega arith in
    let z : suc i ≡ m.i = omega arith in
    let o = tells_eq i P.output.0 in (
      omega arith,
      omega arith,
      omega arith,
      λ B p e.
          let u : Risen (rows_of A) (FitsIn B A) (suc i) (entries m.fit) (entries m.under) = rw z (m.invariant.3 B p e) in
          let f = step_fits B A p.sets_of.valid v i (eqb i P.output.0) _ _ l (o.says, o.test) u _
          (rw c.from-own.ensures at (c.fits-f.ensures B p e)) in
          risen_turn (rows_of A) (FitsIn B A) (shape_ordered v) i _ _ _ _ _ _ _ (record { late = omega arith; here = l; up = refl }) u f
          (rw c.along-g.ensures (along (rows_of A) (FitsIn B A) i _ (A.axis i) refl f)) c.hand_up.ensures,
    )

pub returns : goal.returns
returns c =
    let B = shape_of c.args.b.table.now in
    let p = c.fill.ensures in
    let e = c.one_bit-output.ensures in
    let P = c.args.a.table.now in
    let A = shape_of P in
    let v : ValidPattern P = kept_pattern c.args.a.right in
    let m = c.loop-i in
    let z : m.i ≡ 1 = omega arith in
    let u : Risen (rows_of A) (FitsIn B A) 1 (entries m.fit) (entries m.under) = rw z at (m.invariant.3 B p e) in
    let o = tells_eq 0 P.output.0 in
    fit_table B A p.sets_of.valid _ m.fit m.under u
    (step_fits B A p.sets_of.valid v 0 (eqb 0 P.output.0) (entries m.fit) (entries m.under) v.some (o.says, o.test) u _
    (rw c.from-own.ensures at (c.fits.ensures B p e))) (omega arith)
