-- What a caller has from the containment call's contract: contained means contained, and apart comes with a document that shows it. Assumes nothing.
use Rattle.tables.proofs.Kit.{ℕ, ◌≡◌, sym, ap, ◌∙◌, subst, List, Ok, arith, take, drop, take_at}
use Rattle.tables.specs.{Document.{Document, ValidDocument, document_of}, Pattern.{shape_of, ValidPattern}, declared.NodeNo.NodeNo, declared.Pattern.Pattern}
use Rattle.placing.specs.Answer.{Answer}
use Rattle.containment.specs.{Witness.{witness_of, answer_node}, Containment.{AnswersContainment, DecidesContainment}}
use Rattle.containment.specs.{declared.Containment.Containment, declared.ContainmentAnswer.ContainmentAnswer}
use Rattle.containment.specs.declared.Containment.TheVariants as containment
use Rattle.containment.proofs.{Contained.{axes, witness_valid, witness_answers, witness_apart, contained_iff}, Written.{parents_length, labels_length}}

-- the first m entries of two lists, as a document
abbrev pub front_of : ℕ → List ℕ → List ℕ → Document
front_of m parents labels = document_of (take m parents) (take m labels)

-- a document that shows that A is not contained in B: it obeys the rules, and A answers the node i on it while B does not
pub record Shows (A B : Pattern) (d : Document) (i : ℕ) : Type 0 where
  pub valid : ValidDocument d
  pub answers : Answer (shape_of A) d i
  pub misses : Answer (shape_of B) d i → ⊥

module _ (A B : Pattern) (parents₀ labels₀ : List ℕ) where
  -- where it says apart, the lists begin with a document that shows it
  pub call_apart : (r : ContainmentAnswer) (parents labels : List ℕ) (m : ℕ) (i : NodeNo) → DecidesContainment A B parents₀ labels₀ (Ok r) parents labels
      → r.answer ≡ containment.Apart m i → Shows A B (front_of m parents labels) i.0
  unfolding witness_of
  call_apart r parents labels m i h e =
      let va : ValidPattern A = h.0.0 in
      let vb : ValidPattern B = h.0.1.0 in
      let x = (subst (λ (a : Containment). AnswersContainment A B parents₀ labels₀ a r.mapping parents labels) e h.1).0 in
      let n : ℕ = A.count in
      let ps : take m parents ≡ (witness_of (shape_of A) x.label).parents
      = ap (take m) x.parent_list ∙ take_at (witness_of (shape_of A) x.label).parents (drop m parents₀) m
      (parents_length (shape_of A) (axes va) n (omega arith) ∙ sym x.count) in
      let ls : take m labels ≡ (witness_of (shape_of A) x.label).labels
      = ap (take m) x.label_list ∙ take_at (witness_of (shape_of A) x.label).labels (drop m labels₀) m
      (labels_length (shape_of A) x.label (axes va) n (omega arith) ∙ sym x.count) in
      let d : witness_of (shape_of A) x.label ≡ front_of m parents labels = λ k. document_of (sym ps k) (sym ls k) in
      subst (λ (j : NodeNo). Shows A B (front_of m parents labels) j.0) (sym x.node)
      (subst (λ (y : Document). Shows A B y (answer_node (shape_of A))) d (record {
        valid = witness_valid (shape_of A) x.label va x.fresh.label;
        answers = witness_answers (shape_of A) x.label va x.fresh.label;
        misses = witness_apart (shape_of A) (shape_of B) x.label va vb x.fresh (λ q. x.not_contained ((contained_iff (shape_of A) (shape_of B) va vb).1 q));
      }))
