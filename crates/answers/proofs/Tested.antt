-- Answers and working entries by tests that run, proved to be what the definitions say. Assumes nothing.
use Rattle.tables.proofs.Kit.{ℕ, suc, ◌+◌, ◌*◌, ◌<◌, ◌≡◌, refl, sym, ap, ◌∙◌, subst, Bool, ◌&&◌, List, [], ◌∷◌, arith, ltb, eqb, length, get_or}
use Rattle.tables.specs.{Bits.Marks, Column.blocks, Document.{Document, node_count, nodes_of, ValidDocument}, Pattern.{Shape, ValidShape}}
use Rattle.tables.proofs.{Columns.{blocks_length, blocks_at}, Marks.{mask, marks_mask}, Rules.{shape_ordered, document_ordered}}
use Rattle.tables.proofs.Tests.{Tells, tells_lt, tells_eq, tells_imp, tells_and, tells_iff, imp, every, tells_every, some, tells_some}
use Rattle.placing.specs.{Placement.{Reaches, ReachesFrom}, Answer.{Begins, Started, In, Lists, StartList}}
use Rattle.placing.proofs.{Listing.{passing, lists_passing, lists_iff}, Probe.{can_send, can_whole}, Sending.{probe, tells_reaches, tells_reaches_from}}
use Rattle.answers.specs.Working.{FitsAt, PlacedAt, Working}

-- the tests for step 0's node, in both forms
unfoldable pub begins : Shape → ℕ → Bool
begins A i = imp (eqb (A.axis 0) 0) (eqb i 0)

pub tells_begins : (A : Shape) (i : ℕ) → Tells (begins A i) (Begins A i)
unfolding begins
tells_begins A i = tells_imp (tells_eq (A.axis 0) 0) (tells_eq i 0)

unfoldable pub is_in : List ℕ → ℕ → Bool
is_in xs i = some (length xs) (λ k. eqb (get_or xs k 0) i)

pub tells_in : (xs : List ℕ) (i : ℕ) → Tells (is_in xs i) (In xs i)
unfolding is_in
tells_in xs i = tells_iff (tells_some (λ k. tells_eq (get_or xs k 0) i) (length xs))
    (λ q. record { place = q.0; early = q.1; is = q.2 }, λ h. (h.place, h.early, h.is))

-- is a list a start list of the document?
unfoldable pub is_start_list : Document → List ℕ → Bool
is_start_list d xs =
    every (length xs) (λ k. imp (ltb (suc k) (length xs)) (ltb (get_or xs k 0) (get_or xs (suc k) 0)))
    && every (length xs) (λ k. ltb (get_or xs k 0) (node_count d))

pub tells_start_list : (d : Document) (xs : List ℕ) → Tells (is_start_list d xs) (StartList d xs)
unfolding is_start_list
tells_start_list d xs = tells_iff
    (tells_and (tells_every (λ k. tells_imp (tells_lt (suc k) (length xs)) (tells_lt (get_or xs k 0) (get_or xs (suc k) 0))) (length xs))
    (tells_every (λ k. tells_lt (get_or xs k 0) (node_count d)) (length xs)))
    (λ p. record { ascending = λ k l. p.0 k (omega arith) l; nodes = p.1 }, λ s. (λ k h l. s.ascending k l, s.nodes))

-- the answers, ascending
unfoldable pub tested_answers : Shape → Document → (ℕ → Bool) → List ℕ
tested_answers A d first = passing (node_count d) (λ i. can_whole A.tree (probe A (nodes_of d) first) A.output i)

-- the two working entries of node i, and the list of them all
unfoldable pub entries_of : Shape → Document → (ℕ → Bool) → ℕ → List ℕ
entries_of A d first i =
    mask A.tree.size (λ s. can_send A.tree (probe A (nodes_of d) first) s i) ∷ mask A.tree.size
    (λ s. can_whole A.tree (probe A (nodes_of d) first) s i) ∷ []

unfoldable pub tested_working : Shape → Document → (ℕ → Bool) → List ℕ
tested_working A d first = blocks (entries_of A d first) (node_count d)

module _ (A : Shape) (d : Document) (first : ℕ → Bool) (First : ℕ → Type 0) (va : ValidShape A) (vd : ValidDocument d)
    (tells_first : (i : ℕ) → Tells (first i) (First i)) where
  -- what is computed is the list of the answers
  pub answers_of : Lists (Started First A d) (tested_answers A d first)
  unfolding tested_answers
  answers_of = lists_iff (lists_passing (node_count d) (λ i. can_whole A.tree (probe A (nodes_of d) first) A.output i) (Started First A d)
      (λ i. tells_reaches A (nodes_of d) first First (shape_ordered va) (document_ordered vd) tells_first A.output i va.output))
      (λ i. (λ q. q.1, λ a. (subst (λ (x : ℕ). x < node_count d) a.at (a.sends.takes A.output va.output).here, a)))

  long : length (tested_working A d first) ≡ node_count d * 2
  unfolding tested_working entries_of
  long = blocks_length (entries_of A d first) 2 (node_count d) (λ i l. refl)

  at : (i r : ℕ) → i < node_count d → r < 2 → get_or (tested_working A d first) (i * 2 + r) 0 ≡ get_or (entries_of A d first i) r 0
  unfolding tested_working entries_of
  at i r l m =
      ap (λ k. get_or (blocks (entries_of A d first) (node_count d)) (k + r) 0) (sym (blocks_length (entries_of A d first) 2 i (λ i l. refl)))
      ∙ blocks_at (entries_of A d first) (node_count d) i r l m

  -- what is computed is the working list
  pub working_of : Working A d First (tested_working A d first) (tested_working A d first)
  unfolding entries_of
  working_of = record {
    same_length = refl;
    fits = λ i l. subst (λ (x : ℕ). Marks x (FitsAt A d i)) (sym (ap (λ k. get_or (tested_working A d first) k 0) (omega arith) ∙ at i 0 l (omega arith)))
        (marks_mask A.tree.size (λ s. can_send A.tree (probe A (nodes_of d) first) s i) (λ s. ReachesFrom A (nodes_of d) s i)
        (λ s m. tells_reaches_from A (nodes_of d) first First (shape_ordered va) (document_ordered vd) tells_first s i m));
    placed = λ i l. subst (λ (x : ℕ). Marks x (PlacedAt A d First i))
        (sym (ap (λ k. get_or (tested_working A d first) k 0) (omega arith) ∙ at i 1 l (omega arith)))
        (marks_mask A.tree.size (λ s. can_whole A.tree (probe A (nodes_of d) first) s i) (λ s. Reaches A (nodes_of d) First s i)
        (λ s m. tells_reaches A (nodes_of d) first First (shape_ordered va) (document_ordered vd) tells_first s i m));
    rest = λ k l. refl;
  }
