-- `rewriting::rewrite_right` meets its contract: the size, the candidate, and whether it serves. Assumes nothing.
use Rattle.tables.proofs.Kit.{◌≤◌, refl, subst, inl, inr, arith}
use Rattle.tables.specs.{Pattern.shape_of, Refusal.{Passes, Refuses}, declared.Refusal.TheVariants.TooLarge}
use Rattle.tables.proofs.Kept.{kept_pattern}
use Rattle.containment.specs.Mapping.{Equal}
use Rattle.joining.specs.Join.{join_of, Joinable}
use Rattle.rewriting.specs.{Rewriting.rewriting_checks}
use Rattle.rewriting.proofs.Rewritten.{candidate_joinable, candidate_unique}
use Rattle.rewriting.proofs.rewrite_right.Goals as goal
use Rattle.rewriting.proofs.rewrite_right.Goals.{Else-v-gt-MOST, In-Some}
use Rattle.rewriting.proofs.rewrite_right.Goals.{then-q-gt-MOST-via-then-q-gt-MOST, then-q-gt-MOST-via-else-q-gt-MOST+then-v-gt-MOST}

-- where the sizes are right, every check holds
passes : (x : Else-v-gt-MOST) → Passes (rewriting_checks x.args.q.table.now x.args.v.table.now)
passes x = (kept_pattern x.args.q.right, (kept_pattern x.args.v.right, ((omega arith, omega arith), tt)))

-- the pattern found can be joined to the view
joinable : (x : In-Some) → Joinable x.args.v.table.now x.in-Some.e
joinable x =
    candidate_joinable x.args.q.table.now x.args.v.table.now (kept_pattern x.args.q.right) (kept_pattern x.args.v.right) x.in-Some.ensures (omega arith)
    (omega arith)

pub returns-then-q-gt-MOST : goal.returns-then-q-gt-MOST
returns-then-q-gt-MOST c =
    let q = c.args.q.table.now in let v = c.args.v.table.now in
    let large : (((q.count ≤ 32) × (v.count ≤ 32)) → ⊥) → Refuses (rewriting_checks q v) TooLarge × Unit {0} =
    λ f. (inr (kept_pattern c.args.q.right, inr (kept_pattern c.args.v.right, inl (f, refl))), tt) in
    elim c.then-q-gt-MOST.branch [
      | then-q-gt-MOST-via-then-q-gt-MOST w ↦ large (λ h. omega arith)
      | then-q-gt-MOST-via-else-q-gt-MOST+then-v-gt-MOST w ↦ large (λ h. omega arith)
    ]

pub returns-in_default : goal.returns-in_default
returns-in_default c = (passes (goal.at.returns-in_default c).Else-v-gt-MOST, c.in_default.ensures)

pub serves-requires : goal.serves-requires
serves-requires c = joinable (goal.at.serves-requires c).In-Some

pub returns-then-not-serves : goal.returns-then-not-serves
returns-then-not-serves c =
    let q = c.args.q.table.now in let v = c.args.v.table.now in (
      passes (goal.at.returns-then-not-serves c).Else-v-gt-MOST,
      λ E k s.
          let u = candidate_unique k c.in-Some.ensures in
          rw c.if-not-serves.true at (c.serves.ensures.1 (subst (λ p. Equal (shape_of (join_of v p)) (shape_of q)) u s.equal)),
    )

pub returns : goal.returns
returns c =
    let g = goal.at.returns c in
    (passes g.Else-v-gt-MOST, (c.in-Some.ensures, record { joinable = joinable g.In-Some; equal = c.serves.ensures.0 (rw c.if-not-serves.false tt) }))
