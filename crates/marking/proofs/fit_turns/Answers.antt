-- The invariant is the state of the upward pass, for every pattern that the plan is of. Assumes nothing.
use Rattle.tables.proofs.Kit.{ℕ, suc, ◌-◌, ◌<◌, ◌≡◌, refl, length, arith}
use Rattle.tables.specs.Document.{of_lists}
use Rattle.tables.proofs.{Kept.kept_document, Rules.document_ordered, Trees.parent_lt}
use Rattle.marking.proofs.Upward.{Upward, up_start, up_fits, up_turn, up_root}
use Rattle.marking.proofs.fit_turns.Goals as goal

pub loop-i-init : goal.loop-i-init
loop-i-init c =
    let v = kept_document c.args.d.right in
    (omega (arith, v.some), λ A p. up_start A _ p.sets_of.valid v c.args.seed _ c.requires.zeros)

pub hand_up-requires : goal.hand_up-requires
hand_up-requires c =
    let i : ℕ = c.loop-i.i - 1 in
    let l : i < length c.args.d.lists.parents.now = omega arith in
    (parent_lt (document_ordered (kept_document c.args.d.right)) i (omega arith) l, omega (arith, c.requires.room))

pub loop-i-preserved : goal.loop-i-preserved
loop-i-preserved c =
    let v = kept_document c.args.d.right in
    let d = of_lists c.args.d.lists in
    let k : 1 < c.loop-i.i = c.loop-i-test.true in
    let i : ℕ = c.loop-i.i - 1 in
    let l : i < length d.parents = omega arith in
    let z : suc i ≡ c.loop-i.i = omega arith in (
      omega arith,
      λ A p.
          let u : Upward A d c.args.seed (suc i) c.args.work.now c.loop-i.work = rw z (c.loop-i.invariant.1 A p) in
          up_turn A _ p.sets_of.valid v c.args.seed i _ _ _ _ _ (record { late = omega arith; here = l; up = refl }) u
          (up_fits A _ p.sets_of.valid v c.args.seed i _ _ l u _ (c.fits-fit.ensures A p)) c.hand_up.ensures,
    )

pub returns : goal.returns
returns c =
    let v = kept_document c.args.d.right in
    let d = of_lists c.args.d.lists in
    let e : c.loop-i.i ≡ 1 = omega arith in
    λ A p.
    let u : Upward A d c.args.seed 1 c.args.work.now c.loop-i.work = rw e at (c.loop-i.invariant.1 A p) in
    up_root A _ p.sets_of.valid v c.args.seed _ _ c.loop-i.work u
    (up_fits A _ p.sets_of.valid v c.args.seed 0 _ c.loop-i.work v.some u _ (c.fits.ensures A p))
    (omega (arith, v.some, c.requires.room))
