-- Containment of a packet's pattern in another's: what the call checks, answers and leaves in the room (docs/RULES.md, "From C").
--   ShownWithin       a contained pair: the smallest mapping
--   ShownApart        a pair apart: the witness as a packet, and its answer node
--   Shown             the room by the answer, 1 or 0
--   fresh_check        a label for the witness
--   contains_checks    what the call checks, in order
--   ContainsPackets   what the call answers
-- Assumes nothing.
use Rattle.std.specs.Prelude.{ℕ, zero, suc, ◌+◌, ◌*◌, ◌≡◌, List, [], ◌∷◌, ◌++◌, length, drop, Result}
use Rattle.tables.specs.Column.{padded}
use Rattle.tables.specs.Checks.{room_for}
use Rattle.tables.specs.Pattern.{shape_of}
use Rattle.tables.specs.Refusal.{Check, Decided}
use Rattle.tables.specs.declared.Pattern.{Pattern}
use Rattle.tables.specs.declared.Refusal.{Refusal}
use Rattle.halves.specs.Bytes.{high, low}
use Rattle.packets.specs.PatternPacket.{packet_pattern, pattern_checks}
use Rattle.packets.specs.DocumentPacket.{document_packet}
use Rattle.containment.specs.Mapping.{LeastMap, Contained}
use Rattle.containment.specs.Witness.{Fresh, witness_size, witness_of, answer_node}

-- A is contained in B: the room begins with the smallest mapping of B into A, 64 bytes, zero past B's steps
pub record ShownWithin (A B : Pattern) (room₀ room : List ℕ) : Type 0 where
  pub contained : Contained (shape_of A) (shape_of B)
  pub by : ℕ → ℕ
  pub least : LeastMap (shape_of B) (shape_of A) by
  pub written : room ≡ padded by B.count ++ drop 64 room₀

-- A is not contained in B: the room begins with the packet of A's witness, and then the two bytes of its answer node
pub record ShownApart (A B : Pattern) (room₀ room : List ℕ) : Type 0 where
  pub not_contained : Contained (shape_of A) (shape_of B) → ⊥
  pub label : ℕ
  pub fresh : Fresh (shape_of A) (shape_of B) label
  pub written :
      room ≡ document_packet (witness_of (shape_of A) label) ++ (high (answer_node (shape_of A)) ∷ low (answer_node (shape_of A)) ∷ [])
      ++ drop (4 * witness_size (shape_of A) + 3 + 2) room₀

-- 1 says contained, 0 says apart
abbrev pub Shown : Pattern → Pattern → List ℕ → ℕ → List ℕ → Type 0
Shown A B room₀ zero room = ShownApart A B room₀ room
Shown A B room₀ (suc zero) room = ShownWithin A B room₀ room
Shown A B room₀ (suc (suc c)) room = ⊥

-- past the packets: a label for the witness
abbrev pub fresh_check : Pattern → Pattern → List Check
fresh_check A B = record { asks = (l : ℕ) × Fresh (shape_of A) (shape_of B) l; gives = 9 } ∷ []

-- the packet of A, the packet of B, that label, and 517 bytes of room
abbrev pub contains_checks : List ℕ → List ℕ → ℕ → List Check
contains_checks xs ys m = (pattern_checks xs ++ pattern_checks ys) ++ fresh_check (packet_pattern xs) (packet_pattern ys) ++ room_for 517 m

-- what the call answers; a refusal leaves the room as it was
pub record ContainsPackets (xs ys room₀ : List ℕ) (r : Result ℕ Refusal) (room : List ℕ) : Type 0 where
  pub says : Decided (contains_checks xs ys (length room₀)) r (λ c. Shown (packet_pattern xs) (packet_pattern ys) room₀ c room) (room ≡ room₀)
