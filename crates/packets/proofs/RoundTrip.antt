-- The two calls on pattern packets, one after the other, by their contracts alone: what is read writes as the same bytes, and what is written reads as
-- the same pattern. Assumes nothing.
use Rattle.tables.proofs.Kit.{ℕ, ◌≡◌, sym, ap, ◌∙◌, subst, List, length, take, drop, take_at, Result, Ok}
use Rattle.tables.specs.{Pattern.{shape_of, Clean}, declared.Pattern.Pattern, declared.Refusal.Refusal}
use Rattle.halves.specs.Bytes.{Bytes}
use Rattle.packets.specs.PatternPacket.{pattern_packet, ReadsPattern, WritesPattern}
use Rattle.packets.proofs.Views.{read_of}
use Rattle.packets.proofs.PatternTrip.{pattern_packet_length, pattern_packet_passes, read_then_written, written_then_read, reads_pattern_unique}

-- the bytes that writing counts are the packet
written_front : (p : Pattern) (before after : List ℕ) (c : ℕ) → WritesPattern p before (Ok c) after → take c after ≡ pattern_packet (shape_of p)
written_front p before after c w =
    ap (take c) w.1.1 ∙ take_at (pattern_packet (shape_of p)) (drop c before) c (pattern_packet_length (shape_of p) ∙ sym w.1.0)

-- a packet that is read, and the pattern written, gives the same bytes
pub read_then_write : (bs : List ℕ) (p : Pattern) (before after : List ℕ) (c : ℕ) → Bytes bs → ReadsPattern bs (Ok p)
    → WritesPattern p before (Ok c) after → (take c after ≡ bs) × (c ≡ length bs)
read_then_write bs p before after c b h w =
    let same : pattern_packet (shape_of p) ≡ bs = ap (λ p. pattern_packet (shape_of p)) h.1 ∙ read_then_written bs b (read_of bs h.0) in
    (written_front p before after c w ∙ same, w.1.0 ∙ sym (pattern_packet_length (shape_of p)) ∙ ap length same)

-- a pattern that is written, and the bytes read, gives the same pattern
pub write_then_read : (p : Pattern) (before after : List ℕ) (c : ℕ) (r : Result Pattern Refusal) → Clean p → WritesPattern p before (Ok c) after
    → ReadsPattern (take c after) r → r ≡ Ok p
write_then_read p before after c r k w h =
    let bs : List ℕ = pattern_packet (shape_of p) in
    let g : ReadsPattern bs r = subst (λ xs. ReadsPattern xs r) (written_front p before after c w) h in
    reads_pattern_unique bs r (Ok p) g (pattern_packet_passes w.0.0, sym (written_then_read p w.0.0 k))
