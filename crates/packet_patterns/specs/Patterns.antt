-- The calls on patterns, as packets in and a packet out: what they check, answer and leave in the room (docs/RULES.md, "From C").
--   joins_checks      what joining two packets checks, in order
--   JoinsPackets     what it answers
--   ServesBy         a compensation is the candidate, and serves
--   rewrites_checks   what rewriting a packet by a packet checks, in order
--   Rewritten        what it leaves where it answers
--   RewritesPackets  what it answers
--   CopiesPacket     what reading a packet and writing it back answers
-- Assumes nothing.
use Rattle.std.specs.Prelude.{ℕ, zero, suc, ◌≤◌, ◌≡◌, List, [], ◌∷◌, ◌++◌, length, drop, Result}
use Rattle.tables.specs.Checks.{room_for}
use Rattle.tables.specs.Refusal.{Check, Decided}
use Rattle.tables.specs.declared.Pattern.{Pattern}
use Rattle.tables.specs.declared.Refusal.{Refusal}
use Rattle.packets.specs.PatternPacket.{packet_pattern, pattern_checks, length_of, PacketPut}
use Rattle.joining.specs.Join.{join_of, join_checks}
use Rattle.rewriting.specs.Candidate.{Candidate}
use Rattle.rewriting.specs.Rewriting.{Serves, rewriting_checks}

-- joining: both packets, then what joining checks, then the room
abbrev pub joins_checks : List ℕ → List ℕ → ℕ → List Check
joins_checks us es m =
    (pattern_checks us ++ pattern_checks es) ++ join_checks (packet_pattern us) (packet_pattern es)
    ++ room_for (length_of (join_of (packet_pattern us) (packet_pattern es))) m

-- joining puts the packet of the join at the front of the room; a refusal leaves the room as it was
pub record JoinsPackets (us es room₀ : List ℕ) (r : Result ℕ Refusal) (room : List ℕ) : Type 0 where
  pub says : Decided (joins_checks us es (length room₀)) r (λ c. PacketPut (join_of (packet_pattern us) (packet_pattern es)) room₀ c room) (room ≡ room₀)

-- E is the candidate for Q by U, and it serves
abbrev pub ServesBy : Pattern → Pattern → Pattern → Type 0
ServesBy Q U E = Candidate Q U E × Serves Q U E

-- rewriting: both packets, then what rewriting checks, then the room for a compensation that serves
abbrev pub rewrites_checks : List ℕ → List ℕ → ℕ → List Check
rewrites_checks qs us m =
    (pattern_checks qs ++ pattern_checks us) ++ rewriting_checks (packet_pattern qs) (packet_pattern us)
    ++ (record { asks = (E : Pattern) → ServesBy (packet_pattern qs) (packet_pattern us) E → length_of E ≤ m; gives = 5 } ∷ [])

-- 0 says that none serves, and the room stays; any other number is the length of the packet of the one that does
abbrev pub Rewritten : Pattern → Pattern → List ℕ → ℕ → List ℕ → Type 0
Rewritten Q U room₀ zero room = ((E : Pattern) → ServesBy Q U E → ⊥) × (room ≡ room₀)
Rewritten Q U room₀ (suc c) room = (E : Pattern) × ServesBy Q U E × PacketPut E room₀ (suc c) room

-- what rewriting a packet by a packet answers; a refusal leaves the room as it was
pub record RewritesPackets (qs us room₀ : List ℕ) (r : Result ℕ Refusal) (room : List ℕ) : Type 0 where
  pub says : Decided (rewrites_checks qs us (length room₀)) r (λ c. Rewritten (packet_pattern qs) (packet_pattern us) room₀ c room) (room ≡ room₀)

-- reading a packet and writing it back: the same bytes at the front of the room
pub record CopiesPacket (bs room₀ : List ℕ) (r : Result ℕ Refusal) (room : List ℕ) : Type 0 where
  pub says : Decided (pattern_checks bs ++ room_for (length bs) (length room₀)) r
      (λ c. (c ≡ length bs) × (room ≡ bs ++ drop c room₀)) (room ≡ room₀)
