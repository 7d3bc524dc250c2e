-- The calls on a document, as packets in and answers out, two bytes each (docs/RULES.md, "From C").
--   AnswersPut      what a call that answers leaves in the room
--   nodes_room       the room for every node
--   packet_checks    what the call checks, in order
--   AnswersPackets  what the call answers
--   start_check      the axis of step 0 and the start nodes
--   start_checks     what the started form checks, in order
--   StartsPackets   what the started form answers
-- Assumes nothing.
use Rattle.std.specs.Prelude.{ℕ, ◌*◌, ◌%◌, ◌≡◌, List, [], ◌∷◌, ◌++◌, length, drop, Result}
use Rattle.tables.specs.Checks.{room_for}
use Rattle.tables.specs.Document.{Document}
use Rattle.tables.specs.Pattern.{Shape, shape_of}
use Rattle.tables.specs.Refusal.{Check, Decided}
use Rattle.tables.specs.declared.Refusal.{Refusal}
use Rattle.halves.specs.Bytes.{packed, unpacked}
use Rattle.packets.specs.PatternPacket.{packet_pattern, pattern_checks}
use Rattle.packets.specs.DocumentPacket.{nodes_in, packet_document, document_rules}
use Rattle.placing.specs.Answer.{Begins, Started, In, Lists, StartList}

-- c answers stand at the front of the room, ascending, two bytes each
pub record AnswersPut (First : ℕ → Type 0) (A : Shape) (d : Document) (room₀ : List ℕ) (c : ℕ) (room : List ℕ) : Type 0 where
  pub answers : List ℕ
  pub lists : Lists (Started First A d) answers
  pub count : c ≡ length answers
  pub written : room ≡ packed answers ++ drop (2 * c) room₀

-- two bytes of room for each node
abbrev pub nodes_room : List ℕ → ℕ → List Check
nodes_room ds = room_for (2 * nodes_in ds)

-- the document's packet, the pattern's packet, the room
abbrev pub packet_checks : List ℕ → List ℕ → ℕ → List Check
packet_checks ds ps m = (document_rules ds ++ pattern_checks ps) ++ nodes_room ds m

-- the answers of a packet's pattern in a packet's document; a refusal leaves the room as it was
pub record AnswersPackets (ds ps room₀ : List ℕ) (r : Result ℕ Refusal) (room : List ℕ) : Type 0 where
  pub says : Decided (packet_checks ds ps (length room₀)) r
      (λ c. AnswersPut (Begins (shape_of (packet_pattern ps))) (shape_of (packet_pattern ps)) (packet_document ds) room₀ c room) (room ≡ room₀)

-- step 0 has axis child, and the start bytes are a start list of the document
abbrev pub start_check : List ℕ → List ℕ → List ℕ → List Check
start_check ds ps ss =
    record { asks = ((shape_of (packet_pattern ps)).axis 0 ≡ 0) × (length ss % 2 ≡ 0) × StartList (packet_document ds) (unpacked ss); gives = 6 } ∷ []

-- the started form checks the start before the room
abbrev pub start_checks : List ℕ → List ℕ → List ℕ → ℕ → List Check
start_checks ds ps ss m = (document_rules ds ++ pattern_checks ps) ++ start_check ds ps ss ++ nodes_room ds m

-- the answers with step 0 at any start node; a refusal leaves the room as it was
pub record StartsPackets (ds ps ss room₀ : List ℕ) (r : Result ℕ Refusal) (room : List ℕ) : Type 0 where
  pub says : Decided (start_checks ds ps ss (length room₀)) r
      (λ c. AnswersPut (In (unpacked ss)) (shape_of (packet_pattern ps)) (packet_document ds) room₀ c room) (room ≡ room₀)
