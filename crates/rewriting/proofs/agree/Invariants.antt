-- `rewriting::agree` meets its contract: the steps looked at stand as deep as each other in the two main paths. Assumes nothing.
use Rattle.tables.proofs.Kit.{ℕ, ◌≡◌, ◌⊎◌, get_or}
use Rattle.tables.specs.{Pattern.shape_of, declared.Pattern.Pattern}
use Rattle.rewriting.proofs.Paths.{Level}
use Rattle.rewriting.proofs.agree.Given as goal

-- the steps looked at are the first ones, or the labels of those are the same
abbrev pub Begun : Pattern → Pattern → ℕ → ℕ → ℕ → Type 0
Begun q v c s t = ((s ≡ c) × (t ≡ v.output.0)) ⊎ (get_or v.label v.output.0 0 ≡ get_or q.label c 0)

abbrev pub invariant-loop-a : goal.invariant-loop-a
invariant-loop-a l =
    Level (shape_of l.q.table.now) (shape_of l.v.table.now) l.s.0 l.t.0 × Begun l.q.table.now l.v.table.now l.initial.s.0 l.s.0 l.t.0

abbrev pub decreases-loop-a : goal.decreases-loop-a
decreases-loop-a l = l.t.0
