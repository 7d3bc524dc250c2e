-- A climb from the output step along the main path. Assumes nothing.
use Rattle.tables.proofs.Kit.{ℕ, ◌+◌, ◌≤◌, ◌<◌, ◌≡◌, refl, ap, inl, inr, ⊎_elim, arith, eq-zero-or-pos}
use Rattle.tables.specs.{Tree.{Child, child, From}, Pattern.{Shape, ValidShape}}
use Rattle.tables.proofs.{Depth.{depth, depth_zero, depth_child}, Rules.shape_ordered, Trees.{parent_lt, from_trans}}

-- s is the step of the main path that is k steps above the output step
pub record Climbed (A : Shape) (s k : ℕ) : Type 0 where
  pub from : From A.tree s A.output
  pub deep : depth A.tree s + k ≡ depth A.tree A.output
  pub low : s + k ≤ A.output

-- the climb begins at the output step
pub climbed_none : (A : Shape) → Climbed A A.output 0
climbed_none A = record { from = inl refl; deep = omega arith; low = omega arith }

module _ {A : Shape} (v : ValidShape A) {s k : ℕ} (r : Climbed A s k) where
  -- from a later step it goes on at the parent
  pub climbed_up : 0 < s → (A.tree.parent s < s) × Climbed A (A.tree.parent s) (k + 1)
  climbed_up l =
      let h : s < A.tree.size = omega (arith, r.low, v.output) in
      let c : Child A.tree (A.tree.parent s) s = record { late = l; here = h; up = refl } in
      let p : A.tree.parent s < s = parent_lt (shape_ordered v) s l h in (
        p,
        record {
          from = from_trans (inr (child c)) r.from;
          deep = omega (arith, r.deep, depth_child (shape_ordered v) (A.tree.parent s) s c);
          low = omega (arith, r.low);
        },
      )

  -- at step 0 the whole main path is climbed
  pub climbed_all : s ≡ 0 → k ≡ depth A.tree A.output
  climbed_all e = omega (arith, r.deep, ap (depth A.tree) e, depth_zero A.tree)

  -- before that the step is a later one
  pub climbed_late : k < depth A.tree A.output → 0 < s
  climbed_late l = ⊎_elim (λ e. absurd (omega (arith, climbed_all e))) (λ p. p) (eq-zero-or-pos s)
