-- The answers of a join are the answers of the compensation, started at the answers of the view. Assumes nothing.
use Rattle.tables.proofs.Kit.{ℕ, ◌≡◌, refl, sym, subst, ◌↔◌}
use Rattle.tables.specs.{Document.{Document, nodes_of}, Pattern.shape_of, declared.Pattern.Pattern}
use Rattle.tables.proofs.Rules.{shape_ordered}
use Rattle.placing.specs.Answer.{Answer, Started}
use Rattle.joining.specs.Join.{join_of, Joinable}
use Rattle.joining.proofs.{Joined.{Pair, pair_of, pair_joined}, Glue.{join_split, join_glue}}

-- where step 0 may go, by its axis
abbrev FirstNode : ℕ → ℕ → Type 0
FirstNode a i = a ≡ 0 → i ≡ 0

-- the same by what joining checks
pub pair_answers : {U E : Pattern} → Pair U E → (d : Document) (i : ℕ) → Answer (shape_of (join_of U E)) d i ↔ Started (Answer (shape_of U) d) (shape_of E) d i
pair_answers {U} {E} p d i = (
  λ a. let s = join_split (pair_joined p) p.view.output p.same (nodes_of d) FirstNode i a in
      record { by = s.2.by; sends = s.2.sends; first = subst (Answer (shape_of U) d) (sym s.2.first) s.1; at = s.2.at },
  λ a. join_glue (pair_joined p) p.view.output p.same (nodes_of d) FirstNode (shape_ordered p.tail) p.tail.output i (a.by 0) a.first
      (record { by = a.by; sends = a.sends; first = refl; at = a.at }),
)

-- the join has exactly the answers found by starting E at each answer of U
pub join_answers : (U E : Pattern) → Joinable U E → (d : Document) (i : ℕ)
    → Answer (shape_of (join_of U E)) d i ↔ Started (Answer (shape_of U) d) (shape_of E) d i
join_answers U E w = pair_answers (pair_of U E w)
