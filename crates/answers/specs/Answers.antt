-- What the Answers call, in both forms, checks, answers and leaves in the two lists (docs/RULES.md, "Answers").
--   Found          what a call that answers leaves
--   HasRoom        both lists are long enough
--   answer_checks   what the call checks, in order
--   started_checks  what the started form checks, in order
--   FindsAnswers   what the call answers
--   FindsStarted   what the started form answers
-- Assumes nothing.
use Rattle.std.specs.Prelude.{ℕ, ◌*◌, ◌≤◌, ◌≡◌, List, [], ◌∷◌, ◌++◌, length, drop, Result}
use Rattle.tables.specs.Document.{Document, node_count, ValidDocument}
use Rattle.tables.specs.Pattern.{Shape, shape_of, ValidPattern}
use Rattle.tables.specs.Refusal.{Check, Decided}
use Rattle.tables.specs.declared.Pattern.{Pattern}
use Rattle.tables.specs.declared.Refusal.{Refusal}
use Rattle.placing.specs.Answer.{Begins, Started, In, Lists, StartList}
use Rattle.answers.specs.Working.{Working}

-- the call has found c answers: they stand ascending at the front of the answer list, and the working list is as stated
pub record Found (A : Shape) (d : Document) (First : ℕ → Type 0) (list₀ work₀ : List ℕ) (c : ℕ) (list work : List ℕ) : Type 0 where
  pub answers : List ℕ
  pub lists : Lists (Started First A d) answers
  pub count : c ≡ length answers
  pub written : list ≡ answers ++ drop c list₀
  pub working : Working A d First work₀ work

-- the answer list has room for every node, the working list for two entries of each
abbrev pub HasRoom : Document → ℕ → ℕ → Type 0
HasRoom d a w = (node_count d ≤ a) × (2 * node_count d ≤ w)

-- answers of p in d, with lists of a and w entries lent: the pattern's rules, the document's, the room
abbrev pub answer_checks : Pattern → Document → ℕ → ℕ → List Check
answer_checks p d a w =
    record { asks = ValidPattern p; gives = 3 } ∷ record { asks = ValidDocument d; gives = 4 } ∷ record { asks = HasRoom d a w; gives = 5 } ∷ []

-- the started form checks the start before the room: step 0 has axis child, and the start list is right
abbrev pub started_checks : Pattern → Document → List ℕ → ℕ → ℕ → List Check
started_checks p d starts a w =
    record { asks = ValidPattern p; gives = 3 } ∷ record { asks = ValidDocument d; gives = 4 }
    ∷ record { asks = ((shape_of p).axis 0 ≡ 0) × StartList d starts; gives = 6 } ∷ record { asks = HasRoom d a w; gives = 5 } ∷ []

-- what the call answers: a count with both lists as `Found` says, or a refusal with both lists as they were
abbrev pub FindsAnswers : Pattern → Document → List ℕ → List ℕ → Result ℕ Refusal → List ℕ → List ℕ → Type 0
FindsAnswers p d list₀ work₀ r list work =
    Decided (answer_checks p d (length list₀) (length work₀)) r
    (λ c. Found (shape_of p) d (Begins (shape_of p)) list₀ work₀ c list work) ((list ≡ list₀) × (work ≡ work₀))

-- what the started form answers: step 0 goes to any start node
abbrev pub FindsStarted : Pattern → Document → List ℕ → List ℕ → List ℕ → Result ℕ Refusal → List ℕ → List ℕ → Type 0
FindsStarted p d starts list₀ work₀ r list work =
    Decided (started_checks p d starts (length list₀) (length work₀)) r
    (λ c. Found (shape_of p) d (In starts) list₀ work₀ c list work) ((list ≡ list₀) × (work ≡ work₀))
