-- Pattern packets: their bytes, what they are read as, and the calls (docs/RULES.md, "Pattern packets").
--   pattern_length   what the length field holds
--   step_bytes       the bytes of a step
--   pattern_packet   the bytes of a pattern
--   packet_shape     the steps that bytes are read as
--   packet_pattern   the pattern that bytes are read as
--   pattern_checks   what reading checks, in order
--   ReadsPattern    what reading answers
--   ReadsTwo        what reading two packets answers
--   length_of        the length of a pattern's packet
--   write_checks     what writing checks, in order
--   PacketPut       a packet at the front of a buffer
--   WritesPattern   what writing answers and leaves in the buffer
-- Assumes nothing.
use Rattle.std.specs.Prelude.{ℕ, ◌+◌, ◌*◌, ◌/◌, ◌≡◌, List, [], ◌∷◌, ◌++◌, length, get_or, drop, Result}
use Rattle.tables.specs.Column.{blocks}
use Rattle.tables.specs.Pattern.{Shape, shape_of, pattern_of}
use Rattle.tables.specs.Checks.{pattern_right, room_for}
use Rattle.tables.specs.Refusal.{Check, Decided}
use Rattle.tables.specs.declared.Pattern.{Pattern}
use Rattle.tables.specs.declared.Refusal.{Refusal}
use Rattle.halves.specs.Bytes.{high, low, half}
use Rattle.packets.specs.Header.{head_checks}

-- what the length field of a pattern packet holds: one byte for the output step and four for each step
abbrev pub pattern_length : ℕ → ℕ
pattern_length n = 1 + 4 * n

-- the four bytes of step s
unfoldable pub step_bytes : Shape → ℕ → List ℕ
step_bytes A s = A.tree.parent s ∷ A.axis s ∷ high (A.label s) ∷ low (A.label s) ∷ []

-- the packet of a pattern
unfoldable pub pattern_packet : Shape → List ℕ
pattern_packet A =
    1 ∷ high (pattern_length A.tree.size) ∷ low (pattern_length A.tree.size) ∷ A.output ∷ blocks (step_bytes A) A.tree.size

-- the steps that a packet holds
unfoldable pub packet_shape : List ℕ → Shape
packet_shape bs = record {
  tree = record { size = half bs 1 / 4; parent = λ s. get_or bs (4 + 4 * s) 0 };
  label = λ s. half bs (6 + 4 * s);
  axis = λ s. get_or bs (5 + 4 * s) 0;
  output = get_or bs 3 0;
}

-- the pattern that a packet is read as
abbrev pub packet_pattern : List ℕ → Pattern
packet_pattern bs = pattern_of (packet_shape bs)

-- reading a pattern packet: its header, for 1 to 64 steps after the output step, and the rules
abbrev pub pattern_checks : List ℕ → List Check
pattern_checks bs = head_checks bs 1 64 ++ pattern_right (packet_pattern bs)

-- reading gives the pattern of the packet, or a refusal
abbrev pub ReadsPattern : List ℕ → Result Pattern Refusal → Type 0
ReadsPattern bs r = Decided (pattern_checks bs) r (λ p. p ≡ packet_pattern bs) (Unit {0})

-- reading two packets gives both patterns, or the first refusal: of the first packet, then of the second
pub record ReadsTwo (bs cs : List ℕ) (r : Result (Pattern × Pattern) Refusal) : Type 0 where
  pub says : Decided (pattern_checks bs ++ pattern_checks cs) r (λ t. (t.0 ≡ packet_pattern bs) × (t.1 ≡ packet_pattern cs)) (Unit {0})

-- the length of a pattern's packet
abbrev pub length_of : Pattern → ℕ
length_of p = pattern_length p.count + 3

-- writing a pattern into a buffer of m bytes: the rules, then the room
abbrev pub write_checks : Pattern → ℕ → List Check
write_checks p m = pattern_right p ++ room_for (length_of p) m

-- the packet of a pattern is at the front of the buffer, and c is its length
abbrev pub PacketPut : Pattern → List ℕ → ℕ → List ℕ → Type 0
PacketPut p before c after = (c ≡ length_of p) × (after ≡ pattern_packet (shape_of p) ++ drop c before)

-- writing puts the packet at the front of the buffer and counts its bytes; a refusal leaves the buffer as it was
abbrev pub WritesPattern : Pattern → List ℕ → Result ℕ Refusal → List ℕ → Type 0
WritesPattern p before r after = Decided (write_checks p (length before)) r (λ c. PacketPut p before c after) (after ≡ before)
