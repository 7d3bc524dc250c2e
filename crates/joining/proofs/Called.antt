-- What the call gives its callers: the join obeys the rules and has the answers of the compensation started at those of the view, and three patterns are joined
-- either way alike. Assumes nothing.
use Rattle.tables.proofs.Kit.{ℕ, ◌≡◌, refl, sym, ap, ◌∙◌, subst, ◌↔◌, arith, Result, Ok, Err}
use Rattle.tables.specs.{Document.Document, Pattern.{shape_of, ValidPattern}, declared.Pattern.Pattern, declared.Refusal.Refusal}
use Rattle.tables.proofs.Refusals.{refuses_not_passes}
use Rattle.placing.specs.Answer.{Answer, Started}
use Rattle.joining.specs.Join.{join_of, join_checks, Joinable, Joins}
use Rattle.joining.proofs.{Order.join_valid, Started.join_answers, Assoc.{join_assoc_accepted, join_assoc}}

-- the call hands a pattern over
abbrev pub Accepted : Result Pattern Refusal → Type 0
Accepted r = (p : Pattern) × (r ≡ Ok p)

-- it does exactly where the pair can be joined
pub called_accepts : (U E : Pattern) (r : Result Pattern Refusal) → Joins U E r → Accepted r ↔ Joinable U E
called_accepts U E (Ok p) h = (λ w. h.0, λ w. (p, refl))
called_accepts U E (Err q) h = (
  λ w. let e = w.1 in let z : ◌≡◌ {A = ℕ} 0 1 = cc in absurd (omega arith),
  λ w. absurd (refuses_not_passes (join_checks U E) q h.0 w),
)

-- and what it hands over is the join
pub called_gives : (U E : Pattern) (r : Result Pattern Refusal) → Joins U E r → (p : Pattern) → r ≡ Ok p → p ≡ join_of U E
called_gives U E r h p e = (subst (Joins U E) e h).1

-- a join that is handed over obeys the rules
pub called_valid : (U E p : Pattern) → Joins U E (Ok p) → ValidPattern p
called_valid U E p h = subst ValidPattern (sym h.1) (join_valid U E h.0)

-- and has the answers of the compensation, started at the answers of the view
pub called_answers : (U E p : Pattern) → Joins U E (Ok p) → (d : Document) (i : ℕ) → Answer (shape_of p) d i ↔ Started (Answer (shape_of U) d) (shape_of E) d i
called_answers U E p h d i =
    subst (λ q. Answer (shape_of q) d i ↔ Started (Answer (shape_of U) d) (shape_of E) d i) (sym h.1) (join_answers U E h.0 d i)

-- A, B and C are joined, first A and B, or first B and C; the second call of each way has what the first hands over
module _ (A B C : Pattern) (ab l bc r : Result Pattern Refusal) (jab : Joins A B ab) (jl : (p : Pattern) → ab ≡ Ok p → Joins p C l) (jbc : Joins B C bc)
    (jr : (p : Pattern) → bc ≡ Ok p → Joins A p r)
  where
    -- what the second call of the one way joins, where the first hands a pattern over
    left_joins : Accepted ab → Joins (join_of A B) C l
    left_joins w = subst (λ p. Joins p C l) (called_gives A B ab jab w.0 w.1) (jl w.0 w.1)

    right_joins : Accepted bc → Joins A (join_of B C) r
    right_joins w = subst (λ p. Joins A p r) (called_gives B C bc jbc w.0 w.1) (jr w.0 w.1)

    -- the two calls of the one way answer exactly where the pairs can be joined
    left_right : (Accepted ab × Accepted l) ↔ (Joinable A B × Joinable (join_of A B) C)
    left_right = (
      λ w. ((called_accepts A B ab jab).0 w.0, (called_accepts (join_of A B) C l (left_joins w.0)).0 w.1),
      λ w. let e = (called_accepts A B ab jab).1 w.0 in (e, (called_accepts (join_of A B) C l (left_joins e)).1 w.1),
    )

    -- and so do those of the other
    right_right : (Accepted bc × Accepted r) ↔ (Joinable B C × Joinable A (join_of B C))
    right_right = (
      λ w. ((called_accepts B C bc jbc).0 w.0, (called_accepts A (join_of B C) r (right_joins w.0)).0 w.1),
      λ w. let e = (called_accepts B C bc jbc).1 w.0 in (e, (called_accepts A (join_of B C) r (right_joins e)).1 w.1),
    )

    -- joining three answers the one way exactly where it does the other
    pub called_either : (Accepted ab × Accepted l) ↔ (Accepted bc × Accepted r)
    called_either = (λ w. right_right.1 ((join_assoc_accepted A B C).0 (left_right.0 w)), λ w. left_right.1 ((join_assoc_accepted A B C).1 (right_right.0 w)))

    -- and gives one pattern
    pub called_assoc : Accepted ab → (p : Pattern) → l ≡ Ok p → r ≡ Ok p
    called_assoc f p g =
        let x = left_right.0 (f, (p, g)) in let y = (join_assoc_accepted A B C).0 x in
        let w = right_right.1 y in
        let same = called_gives (join_of A B) C l (left_joins f) p g ∙ join_assoc A B C x.0 x.1 y.0 y.1
        ∙ sym (called_gives A (join_of B C) r (right_joins w.0) w.1.0 w.1.1) in
        w.1.1 ∙ ap Ok (sym same)
