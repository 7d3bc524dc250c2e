-- The calls on packets of patterns, from the contracts of the calls that they make. Assumes nothing.
use Rattle.tables.proofs.Kit.{ℕ, zero, suc, ◌≤◌, ◌≡◌, sym, ap, ◌∙◌, subst, subst₂, List, [], ◌∷◌, ◌++◌, arith, length, drop}
use Rattle.tables.proofs.Kit.{Result, Ok, Option, Some}
use Rattle.tables.specs.{Checks.room_for, Pattern.{shape_of, ValidPattern}}
use Rattle.tables.specs.{Refusal.{Check, Decided}, declared.Refusal.Refusal, declared.Pattern.Pattern}
use Rattle.tables.proofs.Outcomes.{decided_rest, decided_known, decided_other}
use Rattle.halves.specs.Bytes.{Bytes}
use Rattle.packets.specs.PatternPacket.{pattern_packet, packet_pattern, pattern_checks, ReadsPattern, ReadsTwo, length_of, PacketPut, WritesPattern}
use Rattle.packets.proofs.{PatternTrip.{pattern_packet_length, read_then_written}, Views.{read_of}}
use Rattle.joining.specs.Join.{join_of, join_checks, Joins}
use Rattle.joining.proofs.Called.{called_valid}
use Rattle.rewriting.specs.Rewriting.{Rewrites, rewriting_checks}
use Rattle.rewriting.proofs.Rewritten.{candidate_unique}
use Rattle.packet_patterns.specs.Patterns.{JoinsPackets, ServesBy, Rewritten, RewritesPackets, CopiesPacket}

-- what a call writes of a pattern that obeys the rules
writes : (p : Pattern) (room₀ room : List ℕ) (a : Result ℕ Refusal) → ValidPattern p → WritesPattern p room₀ a room
    → Decided (room_for (length_of p) (length room₀)) a (λ c. PacketPut p room₀ c room) (room ≡ room₀)
writes p room₀ room a v w = decided_known 3 (room_for (length_of p) (length room₀)) a (λ c. PacketPut p room₀ c room) (room ≡ room₀) v w

-- two packets to be joined
module _ (us es : List ℕ) where
  abbrev front : List Check
  front = pattern_checks us ++ pattern_checks es

  abbrev U : Pattern
  U = packet_pattern us

  abbrev E : Pattern
  E = packet_pattern es

  abbrev join_room : List ℕ → List Check
  join_room room₀ = room_for (length_of (join_of U E)) (length room₀)

  module _ (two : Pattern × Pattern) (h : ReadsTwo us es (Ok two)) where
    -- the join of the packets' patterns
    joined : (j : Result Pattern Refusal) → Joins two.0 two.1 j → Joins U E j
    joined j g = subst₂ (λ x y. Joins x y j) h.says.1.0 h.says.1.1 g

    pub join_written : {room₀ room : List ℕ} (p : Pattern) (a : Result ℕ Refusal) → Joins two.0 two.1 (Ok p) → WritesPattern p room₀ a room
        → JoinsPackets us es room₀ a room
    join_written {room₀} {room} p a g w =
        let d = joined (Ok p) g in
        let v : ValidPattern (join_of U E) = subst ValidPattern d.1 (called_valid U E p d) in
        let X : ℕ → Type 0 = λ c. PacketPut (join_of U E) room₀ c room in
        record {
          says = decided_rest front (join_checks U E ++ join_room room₀) a X (room ≡ room₀) h.says.0
              (decided_rest (join_checks U E) (join_room room₀) a X (room ≡ room₀) d.0
              (writes (join_of U E) room₀ room a v (subst (λ x. WritesPattern x room₀ a room) d.1 w)));
        }

-- two packets, the first to be rewritten by the second
module _ (qs us : List ℕ) where
  abbrev pair : List Check
  pair = pattern_checks qs ++ pattern_checks us

  abbrev Q : Pattern
  Q = packet_pattern qs

  abbrev W : Pattern
  W = packet_pattern us

  abbrev last : List ℕ → List Check
  last room₀ = record { asks = (E : Pattern) → ServesBy Q W E → length_of E ≤ length room₀; gives = 5 } ∷ []

  module _ (two : Pattern × Pattern) (h : ReadsTwo qs us (Ok two)) where
    there : (w : Result (Option Pattern) Refusal) → Rewrites two.0 two.1 w → Rewrites Q W w
    there w g = subst₂ (λ x y. Rewrites x y w) h.says.1.0 h.says.1.1 g

    pub rewrite_handed : {room₀ room : List ℕ} (p : Pattern) (a : Result ℕ Refusal) → Rewrites two.0 two.1 (Ok (Some p)) → WritesPattern p room₀ a room
        → RewritesPackets qs us room₀ a room
    rewrite_handed {room₀} {room} p a g x =
        let n = there (Ok (Some p)) g in let s : ServesBy Q W p = n.1 in
        let X : ℕ → Type 0 = λ c. Rewritten Q W room₀ c room in
        record {
          says = decided_rest pair (rewriting_checks Q W ++ last room₀) a X (room ≡ room₀) h.says.0
              (decided_rest (rewriting_checks Q W) (last room₀) a X (room ≡ room₀) n.0
              (decided_other 5 a (λ c. PacketPut p room₀ c room) X (room ≡ room₀)
              (λ l E z. subst (λ y. length_of y ≤ length room₀) (candidate_unique s.0 z.0) l)
              (λ f. f p s)
              (λ c z. handed s c z)
              (writes p room₀ room a s.1.joinable.1.0 x)));
        }
      where
        handed : ServesBy Q W p → (c : ℕ) → PacketPut p room₀ c room → Rewritten Q W room₀ c room
        handed s zero z = absurd (omega (arith, z.0))
        handed s (suc c) z = (p, s, z)

-- a packet to be written back
module _ (bs : List ℕ) where
  pub copy_written : {room₀ room : List ℕ} → Bytes bs → (x : Pattern) (a : Result ℕ Refusal) → ReadsPattern bs (Ok x) → WritesPattern x room₀ a room
      → CopiesPacket bs room₀ a room
  copy_written {room₀} {room} b x a t w =
      let p = packet_pattern bs in
      let r = read_of bs t.0 in let same : pattern_packet (shape_of p) ≡ bs = read_then_written bs b r in
      let size : length_of p ≡ length bs = sym (pattern_packet_length (shape_of p)) ∙ ap length same in
      let X : ℕ → Type 0 = λ c. (c ≡ length bs) × (room ≡ bs ++ drop c room₀) in
      record {
        says = decided_rest (pattern_checks bs) (room_for (length bs) (length room₀)) a X (room ≡ room₀) t.0
            (decided_other 5 a (λ c. PacketPut p room₀ c room) X (room ≡ room₀) (λ l. omega (arith, size)) (λ l. omega (arith, size))
            (λ c z. (z.0 ∙ size, z.1 ∙ ap (λ y. y ++ drop c room₀) same))
            (writes p room₀ room a r.right (subst (λ y. WritesPattern y room₀ a room) t.1 w)));
      }
