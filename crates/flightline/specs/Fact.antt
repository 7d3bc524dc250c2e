-- The kinds of fact in the table of flight line seven (docs/RULES.md, "Flight line seven"), and what each says in the terms of the definitions. Assumes
-- nothing.
use Rattle.std.specs.Prelude.{ℕ, ◌*◌, ◌≡◌, List, [], ◌∷◌, length, get_or, Ok, Some, None}
use Rattle.tables.specs.Column.{column}
use Rattle.tables.specs.Document.{Document, node_count, ValidDocument}
use Rattle.tables.specs.Pattern.{shape_of, pattern_of, ValidPattern}
use Rattle.tables.specs.declared.Pattern.{Pattern}
use Rattle.packets.specs.PatternPacket.{pattern_packet, ReadsPattern}
use Rattle.placing.specs.Answer.{Begins, Answer, Started, In, Lists, StartList}
use Rattle.answers.specs.Working.{Working}
use Rattle.containment.specs.Mapping.{LeastMap, Contained, Equal}
use Rattle.containment.specs.Witness.{Fresh, witness_of, answer_node}
use Rattle.rewriting.specs.Rewriting.{Serves, Rewrites}

-- a pattern by its columns: parents, axes, labels, output step
unfoldable pub pattern : List ℕ → List ℕ → List ℕ → ℕ → Pattern
pattern ps xs ls o =
    pattern_of (record { tree = record { size = length ps; parent = λ s. get_or ps s 0 }; label = λ s. get_or ls s 0; axis = λ s. get_or xs s 0; output = o })

-- one line of the table
pub data Fact : Type 0 where
  answers : Pattern → List ℕ → Fact
  packet : Pattern → List ℕ → Fact
  working : Pattern → List ℕ → Fact
  contained : Pattern → Pattern → List ℕ → Fact
  apart : Pattern → Pattern → ℕ → Document → ℕ → Fact
  equal : Pattern → Pattern → Fact
  handed : Pattern → Pattern → Pattern → Fact
  started : Pattern → List ℕ → List ℕ → Fact
  nothing : Pattern → Pattern → Fact

-- what each line says, on the document d
abbrev pub Holds : Document → Fact → Type 0
-- the answers of A are xs
Holds d (answers A xs) = ValidPattern A × Lists (Answer (shape_of A) d) xs
-- the packet of A is bs, and is read as A
Holds d (packet A bs) = (pattern_packet (shape_of A) ≡ bs) × ReadsPattern bs (Ok A)
-- the working list of A is ws
Holds d (working A ws) = ValidPattern A × (length ws ≡ 2 * node_count d) × Working (shape_of A) d (Begins (shape_of A)) ws ws
-- A is contained in B, and the smallest mapping of B into A is ms
Holds d (contained A B ms) =
    ValidPattern A × ValidPattern B × Contained (shape_of A) (shape_of B) × ((m : ℕ → ℕ) × LeastMap (shape_of B) (shape_of A) m × (column m B.count ≡ ms))
-- A is not contained in B; the fresh label is l, the witness w, and its answer node i is an answer of A there and not of B
Holds d (apart A B l w i) =
    ValidPattern A × ValidPattern B × (Contained (shape_of A) (shape_of B) → ⊥) × Fresh (shape_of A) (shape_of B) l × (witness_of (shape_of A) l ≡ w)
    × (answer_node (shape_of A) ≡ i) × ValidDocument w × Answer (shape_of A) w i × (Answer (shape_of B) w i → ⊥)
-- A and B are equal
Holds d (equal A B) = ValidPattern A × ValidPattern B × Equal (shape_of A) (shape_of B)
-- rewriting Q by U hands over C
Holds d (handed Q U C) = Rewrites Q U (Ok (Some C))
-- C started at the nodes ss has the answers xs
Holds d (started C ss xs) = ValidPattern C × ((shape_of C).axis 0 ≡ 0) × StartList d ss × Lists (Started (In ss) (shape_of C) d) xs
-- rewriting Q by U gives nothing, and no compensation serves
Holds d (nothing Q U) = Rewrites Q U (Ok None) × ((E : Pattern) → Serves Q U E → ⊥)

-- every line holds
abbrev pub AllHold : Document → List Fact → Type 0
AllHold d [] = Unit {0}
AllHold d (f ∷ fs) = Holds d f × AllHold d fs
