-- What fits the contract of a call on two patterns fits it for all tables with the same steps. Assumes nothing.
use Rattle.tables.proofs.Kit.{ℕ, ◌≡◌, refl, sym, ap, ◌∙◌, subst, List, ◌++◌, arith, length, drop, ◌↔◌, T, Bool, Result, Option, Some, None}
use Rattle.tables.specs.{
  Column.{node_no, step_array},
  Pattern.{shape_of, ValidPattern},
  declared.Pattern.Pattern,
  declared.StepNo.StepNo,
  declared.Refusal.Refusal,
}
use Rattle.tables.proofs.Rules.{agree_sym}
use Rattle.containment.specs.{Mapping.Equal, Witness.witness_size, Containment.{containment_checks, AnswersContainment, DecidesContainment}}
use Rattle.containment.specs.{Equality.{pair_checks, DecidesEquality}, declared.Containment.Containment, declared.ContainmentAnswer.ContainmentAnswer}
use Rattle.containment.specs.declared.Containment.TheVariants as containment
use Rattle.joining.specs.Join.{join_of, join_checks, Joins}
use Rattle.rewriting.specs.Rewriting.{Serves, rewriting_checks, AnswersRewriting, Rewrites}
use Rattle.promises.specs.SameSteps.{SameSteps}
use Rattle.promises.proofs.Agreeing.{same_agree, same_sym, SameChecks, alike, passes_alike, decided_alike, answer_alike}
use Rattle.promises.proofs.AgreeingPairs.{contained_alike, least_alike, fresh_alike, size_alike, node_alike, witness_alike, join_alike, candidate_alike}
use Rattle.promises.proofs.Moved.{valid_alike}

module _ {A A' B B' : Pattern} (e : SameSteps A A') (f : SameSteps B B') where
  -- what containment checks
  contains_checks_lem : (a b : ℕ) → SameChecks (containment_checks A B a b) (containment_checks A' B' a b)
  contains_checks_lem a b =
      let x = same_agree e in let y = same_agree f in let n : witness_size (shape_of A) ≡ witness_size (shape_of A') = size_alike x in
      alike (valid_alike e) (λ u. alike (valid_alike f) (λ v. alike
      (λ w. (w.0, fresh_alike x y w.0 w.1), λ w. (w.0, fresh_alike (agree_sym x) (agree_sym y) w.0 w.1))
      (λ w. alike (λ z. (omega (arith, n, z.0), omega (arith, n, z.1)), λ z. (omega (arith, n, z.0), omega (arith, n, z.1))) (λ z. tt))))

  -- containment
  contains_answer_fit : (parents₀ labels₀ : List ℕ) (r : Containment) (m : List StepNo) (parents labels : List ℕ) → ValidPattern A → ValidPattern B
      → AnswersContainment A B parents₀ labels₀ r m parents labels → AnswersContainment A' B' parents₀ labels₀ r m parents labels
  contains_answer_fit parents₀ labels₀ containment.Contained m parents labels u v h =
      let x = same_agree e in let y = same_agree f in (
        record {
          contained = contained_alike x y u.some v.some h.0.contained;
          by = h.0.by;
          least = least_alike x y u.some v.some h.0.by h.0.least;
          array = h.0.array ∙ ap (step_array h.0.by) f.count;
        },
        h.1,
        h.2,
      )
  contains_answer_fit parents₀ labels₀ (containment.Apart n i) m parents labels u v h =
      let x = same_agree e in let y = same_agree f in let k = h.0 in
      let w = witness_alike x u k.label in (
        record {
          not_contained = λ z. k.not_contained (contained_alike (agree_sym x) (agree_sym y) ((valid_alike e).0 u).some ((valid_alike f).0 v).some z);
          label = k.label;
          fresh = fresh_alike x y k.label k.fresh;
          count = k.count ∙ size_alike x;
          node = k.node ∙ ap node_no (node_alike x u);
          parent_list = k.parent_list ∙ ap (λ d. d.parents ++ drop n parents₀) w;
          label_list = k.label_list ∙ ap (λ d. d.labels ++ drop n labels₀) w;
        },
        h.1,
      )

  pub contains_fit : (parents₀ labels₀ : List ℕ) (r : Result ContainmentAnswer Refusal) (parents labels : List ℕ)
      → DecidesContainment A B parents₀ labels₀ r parents labels → DecidesContainment A' B' parents₀ labels₀ r parents labels
  contains_fit parents₀ labels₀ r parents labels =
      let a = length parents₀ in let b = length labels₀ in
      decided_alike (containment_checks A B a b) (containment_checks A' B' a b) r
      (λ t. AnswersContainment A B parents₀ labels₀ t.answer t.mapping parents labels)
      (λ t. AnswersContainment A' B' parents₀ labels₀ t.answer t.mapping parents labels) ((parents ≡ parents₀) × (labels ≡ labels₀))
      ((parents ≡ parents₀) × (labels ≡ labels₀)) (contains_checks_lem a b)
      (λ p t. contains_answer_fit parents₀ labels₀ t.answer t.mapping parents labels p.0 p.1.0) (λ x. x)

  -- equality
  equal_checks : SameChecks (pair_checks A B) (pair_checks A' B')
  equal_checks = alike (valid_alike e) (λ u. alike (valid_alike f) (λ v. tt))

  equal_same : ValidPattern A → ValidPattern B → Equal (shape_of A) (shape_of B) → Equal (shape_of A') (shape_of B')
  equal_same u v h = let x = same_agree e in let y = same_agree f in record {
    to = contained_alike x y u.some v.some h.to;
    back = contained_alike y x v.some u.some h.back;
  }

  -- joining
  join_checks_lem : SameChecks (join_checks A B) (join_checks A' B')
  join_checks_lem = alike (valid_alike e) (λ u. alike (valid_alike f) (λ v. alike (λ x. sym (f.axis 0 v.some) ∙ x, λ x. f.axis 0 v.some ∙ x) (λ x. alike (
    λ y. ap (shape_of A').label (sym e.output) ∙ sym (e.label A.output.0 u.output) ∙ y ∙ f.label 0 v.some,
    λ y. e.label A.output.0 u.output ∙ ap (shape_of A').label e.output ∙ y ∙ sym (f.label 0 v.some),
  )
      (λ y. alike (λ z. omega (arith, e.count, f.count), λ z. omega (arith, e.count, f.count)) (λ z. tt)))))

  pub join_fit : (r : Result Pattern Refusal) → Joins A B r → Joins A' B' r
  join_fit r =
      decided_alike (join_checks A B) (join_checks A' B') r (λ p. p ≡ join_of A B) (λ p. p ≡ join_of A' B') (Unit {0}) (Unit {0}) join_checks_lem
      (λ v p x. x ∙ join_alike e f v.0 v.1.0) (λ x. x)

module _ {A A' B B' : Pattern} (e : SameSteps A A') (f : SameSteps B B') where
  pub equal_fit : (r : Result Bool Refusal) → DecidesEquality A B r → DecidesEquality A' B' r
  equal_fit r =
      decided_alike (pair_checks A B) (pair_checks A' B') r (λ b. T b ↔ Equal (shape_of A) (shape_of B)) (λ b. T b ↔ Equal (shape_of A') (shape_of B'))
      (Unit {0}) (Unit {0})
      (equal_checks e f) (λ p b h. (
        λ t. equal_same e f p.0 p.1.0 (h.0 t),
        λ x. h.1 (equal_same (same_sym e) (same_sym f) ((valid_alike e).0 p.0) ((valid_alike f).0 p.1.0) x),
      )) (λ x. x)

-- a compensation serves alike
serves_alike : {Q Q' U U' : Pattern} → SameSteps Q Q' → SameSteps U U' → ValidPattern Q → (E : Pattern) → Serves Q U E → Serves Q' U' E
serves_alike {Q} {Q'} {U} {U'} e f v E h =
    let same : SameSteps E E = record { count = refl; output = refl; parent = λ s l. refl; axis = λ s l. refl; label = λ s l. refl } in
    let j = join_alike f same h.joinable.0 h.joinable.1.0 in let x = same_agree e in
    record {
      joinable = passes_alike (join_checks U E) (join_checks U' E) (join_checks_lem f same) h.joinable;
      equal = subst (λ (p : Pattern). Equal (shape_of p) (shape_of Q')) j (record {
        to = λ d w i a. answer_alike x v.some d i (h.equal.to d w i a);
        back = λ d w i a. h.equal.back d w i (answer_alike (agree_sym x) ((valid_alike e).0 v).some d i a);
      });
    }

module _ {Q Q' U U' : Pattern} (e : SameSteps Q Q') (f : SameSteps U U') where
  -- rewriting
  rewrite_checks : SameChecks (rewriting_checks Q U) (rewriting_checks Q' U')
  rewrite_checks = alike (valid_alike e) (λ u. alike (valid_alike f) (λ v. alike
      (λ x. (omega (arith, e.count, x.0), omega (arith, f.count, x.1)), λ x. (omega (arith, e.count, x.0), omega (arith, f.count, x.1))) (λ x. tt)))

  rewrite_answer_fit : (r : Option Pattern) → ValidPattern Q → ValidPattern U → AnswersRewriting Q U r → AnswersRewriting Q' U' r
  rewrite_answer_fit (Some p) u v h = (candidate_alike e f u v p h.0, serves_alike e f u p h.1)
  rewrite_answer_fit None u v h = λ E c s.
      let g = same_sym e in let w = (valid_alike e).0 u in let x = (valid_alike f).0 v in
      h E (candidate_alike g (same_sym f) w x E c) (serves_alike g (same_sym f) w E s)

  pub rewrite_fit : (r : Result (Option Pattern) Refusal) → Rewrites Q U r → Rewrites Q' U' r
  rewrite_fit r =
      decided_alike (rewriting_checks Q U) (rewriting_checks Q' U') r (AnswersRewriting Q U) (AnswersRewriting Q' U') (Unit {0}) (Unit {0}) rewrite_checks
      (λ p a. rewrite_answer_fit a p.0 p.1.0) (λ x. x)
