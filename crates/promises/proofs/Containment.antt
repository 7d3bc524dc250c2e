-- The containment call says contained exactly where it is so on every document; where it says apart, the document that it hands over tells the two patterns
-- apart by the Answers call itself. Assumes nothing.
use Rattle.tables.proofs.Kit.{ℕ, ◌≡◌, refl, ap, ◌∙◌, ◌↔◌, List, arith, length, take, Result, Ok, Err}
use Rattle.tables.specs.{Pattern.shape_of, Refusal.Passes, declared.NodeNo.NodeNo, declared.Pattern.Pattern, declared.StepNo.StepNo, declared.Refusal.Refusal}
use Rattle.tables.proofs.Refusals.{refuses_not_passes}
use Rattle.placing.specs.Answer.{Begins, In}
use Rattle.answers.specs.Answers.{FindsAnswers}
use Rattle.containment.specs.{Mapping.Contained, Containment.{containment_checks, AnswersContainment, DecidesContainment}}
use Rattle.containment.specs.{declared.Containment.Containment, declared.ContainmentAnswer.ContainmentAnswer}
use Rattle.containment.specs.declared.Containment.TheVariants as containment
use Rattle.containment.proofs.Called.{front_of, call_apart}
use Rattle.promises.proofs.Joining.{front}

-- contained is said
abbrev pub SaysContained : Result ContainmentAnswer Refusal → Type 0
SaysContained r = (a : ContainmentAnswer) × (r ≡ Ok a) × (a.answer ≡ containment.Contained)

module _ (A B : Pattern) (parents₀ labels₀ : List ℕ) where
  exactly : (a : Containment) (m : List StepNo) (parents labels : List ℕ) → AnswersContainment A B parents₀ labels₀ a m parents labels
      → (a ≡ containment.Contained) ↔ Contained (shape_of A) (shape_of B)
  exactly containment.Contained m parents labels h = (λ e. h.0.contained, λ k. refl)
  exactly (containment.Apart n x) m parents labels h = (λ e. absurd (let z : ◌≡◌ {A = ℕ} 0 1 = cc in omega arith), λ k. absurd (h.0.not_contained k))

  -- where the checks pass, the call says contained exactly where A is contained in B
  pub contained_exactly : (r : Result ContainmentAnswer Refusal) (parents labels : List ℕ) → DecidesContainment A B parents₀ labels₀ r parents labels
      → Passes (containment_checks A B (length parents₀) (length labels₀)) → SaysContained r ↔ Contained (shape_of A) (shape_of B)
  contained_exactly (Ok a) parents labels h c =
      let k = exactly a.answer a.mapping parents labels h.1 in
      (λ w. k.0 (ap answer_in w.1 ∙ w.2), λ w. (a, refl, k.1 w))
    where
      answer_in : Result ContainmentAnswer Refusal → Containment
      answer_in (Ok b) = b.answer
      answer_in (Err q) = a.answer
  contained_exactly (Err q) parents labels h c = absurd (refuses_not_passes (containment_checks A B (length parents₀) (length labels₀)) q h.0 c)

  -- where it says apart, the Answers call lists the answer node for A on the document handed over
  pub apart_listed : (a : ContainmentAnswer) (parents labels : List ℕ) (m : ℕ) (i : NodeNo) → DecidesContainment A B parents₀ labels₀ (Ok a) parents labels
      → a.answer ≡ containment.Apart m i
      → (l₀ w₀ : List ℕ) (c : ℕ) (l w : List ℕ) → FindsAnswers A (front_of m parents labels) l₀ w₀ (Ok c) l w → In (take c l) i.0
  apart_listed a parents labels m i h e l₀ w₀ c l w f =
      (front (shape_of A) (front_of m parents labels) (Begins (shape_of A)) l₀ w₀ c l w f.1).complete i.0
      (call_apart A B parents₀ labels₀ a parents labels m i h e).answers

  -- and does not for B
  pub apart_missed : (a : ContainmentAnswer) (parents labels : List ℕ) (m : ℕ) (i : NodeNo) → DecidesContainment A B parents₀ labels₀ (Ok a) parents labels
      → a.answer ≡ containment.Apart m i
      → (l₀ w₀ : List ℕ) (c : ℕ) (l w : List ℕ) → FindsAnswers B (front_of m parents labels) l₀ w₀ (Ok c) l w → In (take c l) i.0 → ⊥
  apart_missed a parents labels m i h e l₀ w₀ c l w f x =
      (call_apart A B parents₀ labels₀ a parents labels m i h e).misses
      ((front (shape_of B) (front_of m parents labels) (Begins (shape_of B)) l₀ w₀ c l w f.1).sound i.0 x)
