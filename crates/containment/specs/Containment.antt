-- What the containment call checks, answers and leaves in the two lists (docs/RULES.md, "Containment").
--   containment_checks   what the call checks, in order
--   Within              what a contained answer says
--   ApartBy             what an apart answer says, and leaves
--   AnswersContainment  the answer by its cases
--   DecidesContainment  what the call answers
-- Assumes nothing.
use Rattle.std.specs.Prelude.{ℕ, ◌≤◌, ◌≡◌, List, [], ◌∷◌, ◌++◌, length, drop, Result}
use Rattle.tables.specs.Column.{node_no, step_array}
use Rattle.tables.specs.Pattern.{shape_of, ValidPattern}
use Rattle.tables.specs.Refusal.{Check, Decided}
use Rattle.tables.specs.declared.Pattern.{Pattern}
use Rattle.tables.specs.declared.Refusal.{Refusal}
use Rattle.tables.specs.declared.StepNo.{StepNo}
use Rattle.tables.specs.declared.NodeNo.{NodeNo}
use Rattle.containment.specs.Mapping.{LeastMap, Contained}
use Rattle.containment.specs.Witness.{Fresh, witness_size, witness_of, answer_node}
use Rattle.containment.specs.declared.Containment.{Containment}
use Rattle.containment.specs.declared.Containment.TheVariants as containment
use Rattle.containment.specs.declared.ContainmentAnswer.{ContainmentAnswer}

-- containment of A in B, with lists of a and b entries lent: A's rules, B's rules, a label left for the witness, the room for it
abbrev pub containment_checks : Pattern → Pattern → ℕ → ℕ → List Check
containment_checks A B a b =
    record { asks = ValidPattern A; gives = 3 } ∷ record { asks = ValidPattern B; gives = 3 }
    ∷ record { asks = (l : ℕ) × Fresh (shape_of A) (shape_of B) l; gives = 9 }
    ∷ record { asks = (witness_size (shape_of A) ≤ a) × (witness_size (shape_of A) ≤ b); gives = 5 } ∷ []

-- A is contained in B, and the mapping handed over is the smallest of B into A
pub record Within (A B : Pattern) (mapping : List StepNo) : Type 0 where
  pub contained : Contained (shape_of A) (shape_of B)
  pub by : ℕ → ℕ
  pub least : LeastMap (shape_of B) (shape_of A) by
  pub array : mapping ≡ step_array by B.count

-- A is not contained in B, and the lists begin with A's witness
pub record ApartBy (A B : Pattern) (parents₀ labels₀ : List ℕ) (nodes : ℕ) (answer : NodeNo) (parents labels : List ℕ) : Type 0 where
  pub not_contained : Contained (shape_of A) (shape_of B) → ⊥
  pub label : ℕ
  pub fresh : Fresh (shape_of A) (shape_of B) label
  pub count : nodes ≡ witness_size (shape_of A)
  pub node : answer ≡ node_no (answer_node (shape_of A))
  pub parent_list : parents ≡ (witness_of (shape_of A) label).parents ++ drop nodes parents₀
  pub label_list : labels ≡ (witness_of (shape_of A) label).labels ++ drop nodes labels₀

-- the answer by its cases; a contained pair leaves both lists as they were, and the mapping is zero unless contained
abbrev pub AnswersContainment : Pattern → Pattern → List ℕ → List ℕ → Containment → List StepNo → List ℕ → List ℕ → Type 0
AnswersContainment A B parents₀ labels₀ containment.Contained mapping parents labels = Within A B mapping × (parents ≡ parents₀) × (labels ≡ labels₀)
AnswersContainment A B parents₀ labels₀ (containment.Apart nodes answer) mapping parents labels =
    ApartBy A B parents₀ labels₀ nodes answer parents labels × (mapping ≡ step_array (λ t. 0) 0)

-- what the call answers; a refusal leaves both lists as they were
abbrev pub DecidesContainment : Pattern → Pattern → List ℕ → List ℕ → Result ContainmentAnswer Refusal → List ℕ → List ℕ → Type 0
DecidesContainment A B parents₀ labels₀ r parents labels =
    Decided (containment_checks A B (length parents₀) (length labels₀)) r
    (λ a. AnswersContainment A B parents₀ labels₀ a.answer a.mapping parents labels) ((parents ≡ parents₀) × (labels ≡ labels₀))
