-- The calls on a document that stands in two lists, with the pattern as a packet (docs/RULES.md, "From C"). Assumes nothing.
use Rattle.std.specs.Prelude.{ℕ, ◌≡◌, List, ◌++◌, length, Result}
use Rattle.tables.specs.Document.{Document}
use Rattle.tables.specs.Pattern.{shape_of}
use Rattle.tables.specs.Refusal.{Decided}
use Rattle.tables.specs.declared.Refusal.{Refusal}
use Rattle.packets.specs.PatternPacket.{packet_pattern, pattern_checks}
use Rattle.packets.specs.DocumentPacket.{ReadsDocument}
use Rattle.placing.specs.Answer.{Begins, In}
use Rattle.answers.specs.Answers.{Found, answer_checks, started_checks}

-- reading a document packet into two lists is the call of that name
pub record ReadsInto (bs parents₀ labels₀ : List ℕ) (r : Result ℕ Refusal) (parents labels : List ℕ) : Type 0 where
  pub says : ReadsDocument bs parents₀ labels₀ r parents labels

-- the answers of a packet's pattern: the packet's checks, then those of the Answers call; a refusal leaves both lists as they were
pub record ListAnswers (d : Document) (ps list₀ work₀ : List ℕ) (r : Result ℕ Refusal) (list work : List ℕ) : Type 0 where
  pub says : Decided (pattern_checks ps ++ answer_checks (packet_pattern ps) d (length list₀) (length work₀)) r
      (λ c. Found (shape_of (packet_pattern ps)) d (Begins (shape_of (packet_pattern ps))) list₀ work₀ c list work) ((list ≡ list₀) × (work ≡ work₀))

-- the same with step 0 at any start node
pub record ListStarted (d : Document) (ps starts list₀ work₀ : List ℕ) (r : Result ℕ Refusal) (list work : List ℕ) : Type 0 where
  pub says : Decided (pattern_checks ps ++ started_checks (packet_pattern ps) d starts (length list₀) (length work₀)) r
      (λ c. Found (shape_of (packet_pattern ps)) d (In starts) list₀ work₀ c list work) ((list ≡ list₀) × (work ≡ work₀))
