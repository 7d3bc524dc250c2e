-- No second answer fits the containment call, nor that on equality. Assumes nothing.
use Rattle.tables.proofs.Kit.{ℕ, ◌≡◌, refl, sym, ap, ap₂, ◌∙◌, ◌↔◌, Bool, true, false, T, List, ◌++◌, length, drop, Result}
use Rattle.tables.specs.{Pattern.shape_of, declared.Pattern.Pattern}
use Rattle.tables.specs.{declared.StepNo.StepNo, declared.NodeNo.NodeNo, declared.Refusal.Refusal}
use Rattle.tables.proofs.{Columns.steps_ext, Outcomes.decided_both, Refusals.decided_unique}
use Rattle.containment.specs.{Witness.witness_of, Containment.{containment_checks, Within, ApartBy, AnswersContainment, DecidesContainment}}
use Rattle.containment.specs.{declared.Containment.Containment, declared.ContainmentAnswer.ContainmentAnswer}
use Rattle.containment.specs.{Equality.{pair_checks, DecidesEquality}, Mapping.Equal}
use Rattle.containment.specs.declared.Containment.TheVariants as containment
use Rattle.containment.proofs.{Deciding.least_map_unique, FreshLabel.fresh_unique}

within_unique : (A B : Pattern) (m n : List StepNo) → Within A B m → Within A B n → m ≡ n
within_unique A B m n h k =
    h.array ∙ steps_ext h.by k.by B.count (least_map_unique (shape_of B) (shape_of A) h.by k.by h.least k.least) ∙ sym k.array

module _ (A B : Pattern) (parents₀ labels₀ parents labels parents' labels' : List ℕ) where
  Same : Containment → Containment → List StepNo → List StepNo → Type 0
  Same a b m n = (a ≡ b) × (m ≡ n) × (parents ≡ parents') × (labels ≡ labels')

  apart_unique : (c e : ℕ) (x y : NodeNo) (m n : List StepNo) → m ≡ n → ApartBy A B parents₀ labels₀ c x parents labels → ApartBy A B parents₀ labels₀ e
      y parents' labels'
      → Same (containment.Apart c x) (containment.Apart e y) m n
  unfolding Same
  apart_unique c e x y m n z h k =
      let l : h.label ≡ k.label = fresh_unique h.fresh k.fresh in
      let u : c ≡ e = h.count ∙ sym k.count in let w : x ≡ y = h.node ∙ sym k.node in
      let p : witness_of (shape_of A) h.label ≡ witness_of (shape_of A) k.label = ap (witness_of (shape_of A)) l in (
        ap₂ containment.Apart u w,
        z,
        h.parent_list ∙ ap₂ (λ d i. d.parents ++ drop i parents₀) p u ∙ sym k.parent_list,
        h.label_list ∙ ap₂ (λ d i. d.labels ++ drop i labels₀) p u ∙ sym k.label_list,
      )

  answers_unique : (a b : Containment) (m n : List StepNo) → AnswersContainment A B parents₀ labels₀ a m parents labels → AnswersContainment A B parents₀
      labels₀ b n parents' labels' → Same a b m n
  unfolding Same
  answers_unique containment.Contained containment.Contained m n h k = (refl, within_unique A B m n h.0 k.0, h.1 ∙ sym k.1, h.2 ∙ sym k.2)
  answers_unique containment.Contained (containment.Apart e y) m n h k = absurd (k.0.not_contained h.0.contained)
  answers_unique (containment.Apart c x) containment.Contained m n h k = absurd (h.0.not_contained k.0.contained)
  answers_unique (containment.Apart c x) (containment.Apart e y) m n h k = apart_unique c e x y m n (h.1 ∙ sym k.1) h.0 k.0

-- two answers to one call are one, and so are the lists that they leave
pub containment_unique : (A B : Pattern) (parents₀ labels₀ : List ℕ) (r q : Result ContainmentAnswer Refusal) (parents labels parents' labels' : List ℕ)
    → DecidesContainment A B parents₀ labels₀ r parents labels → DecidesContainment A B parents₀ labels₀ q parents' labels' → (r ≡ q) × (parents ≡ parents') ×
    (labels ≡ labels')
unfolding Same
containment_unique A B parents₀ labels₀ r q parents labels parents' labels' h k =
    let same = λ (a b : ContainmentAnswer). answers_unique A B parents₀ labels₀ parents labels parents' labels' a.answer b.answer a.mapping b.mapping in
    let cs = containment_checks A B (length parents₀) (length labels₀) in
    let lists : (parents ≡ parents') × (labels ≡ labels') = decided_both cs r q (λ a b x y. let s = same a b x y in (s.2, s.3))
    (λ x y. (x.0 ∙ sym y.0, x.1 ∙ sym y.1)) h k in (
      decided_unique cs r q _ _ _ _ (λ a b x y.
          let s = same a b x y in ap₂ (λ (c : Containment) (m : List StepNo). record { answer = c; mapping = m }) s.0 s.1) h k,
      lists.0,
      lists.1,
    )

-- two answers on the equality of one pair are one
pub equality_unique : (A B : Pattern) (r q : Result Bool Refusal) → DecidesEquality A B r → DecidesEquality A B q → r ≡ q
equality_unique A B r q h k = decided_unique (pair_checks A B) r q _ _ _ _ same h k
  where
    same : (a b : Bool) → T a ↔ Equal (shape_of A) (shape_of B) → T b ↔ Equal (shape_of A) (shape_of B) → a ≡ b
    same true true x y = refl
    same true false x y = absurd (y.1 (x.0 tt))
    same false true x y = absurd (x.1 (y.0 tt))
    same false false x y = refl
