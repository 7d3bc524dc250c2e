-- No second answer and no second content of the room fits a call on packets of patterns. Assumes nothing.
use Rattle.tables.proofs.Kit.{ℕ, zero, suc, ◌+◌, ◌*◌, ◌≡◌, refl, sym, ap, ap₂, ◌∙◌, List, [], ◌∷◌, ◌++◌, length, drop, Result}
use Rattle.tables.specs.{Checks.room_for, Pattern.shape_of, declared.Pattern.Pattern, declared.Refusal.Refusal}
use Rattle.tables.proofs.Columns.{padded_ext}
use Rattle.halves.specs.Bytes.{high, low}
use Rattle.packets.specs.{PatternPacket.{pattern_packet, packet_pattern, pattern_checks, length_of, PacketPut}, DocumentPacket.document_packet}
use Rattle.packets.proofs.Putting.{One, one_room}
use Rattle.containment.specs.Witness.{witness_size, witness_of, answer_node}
use Rattle.containment.proofs.{Deciding.least_map_unique, FreshLabel.fresh_unique}
use Rattle.joining.specs.Join.{join_of}
use Rattle.rewriting.proofs.Rewritten.{candidate_unique}
use Rattle.packet_patterns.specs.Contained.{Shown, contains_checks, ContainsPackets}
use Rattle.packet_patterns.specs.Patterns.{joins_checks, JoinsPackets, rewrites_checks, Rewritten, RewritesPackets, CopiesPacket}

-- one pattern is put in one way
put_unique : {p q : Pattern} → p ≡ q → (room₀ room room' : List ℕ) (c e : ℕ) → PacketPut p room₀ c room → PacketPut q room₀ e room' → (c ≡ e) × (room ≡ room')
put_unique s room₀ room room' c e x y =
    let n : c ≡ e = x.0 ∙ ap length_of s ∙ sym y.0 in
    (n, x.1 ∙ ap₂ (λ (p : Pattern) (m : ℕ). pattern_packet (shape_of p) ++ drop m room₀) s n ∙ sym y.1)

pub joins_packets_unique : (us es room₀ : List ℕ) (r q : Result ℕ Refusal) (room room' : List ℕ) → JoinsPackets us es room₀ r room → JoinsPackets us es room₀
    q room' →
    (r ≡ q) × (room ≡ room')
joins_packets_unique us es room₀ r q room room' h k =
    one_room (joins_checks us es (length room₀)) (PacketPut (join_of (packet_pattern us) (packet_pattern es)))
    (put_unique {p = join_of (packet_pattern us) (packet_pattern es)} refl) room₀ r q room room'
    h.says k.says

rewritten_unique : (Q U : Pattern) → One (Rewritten Q U)
rewritten_unique Q U room₀ room room' zero zero x y = (refl, x.1 ∙ sym y.1)
rewritten_unique Q U room₀ room room' zero (suc e) x y = absurd (x.0 y.0 y.1)
rewritten_unique Q U room₀ room room' (suc c) zero x y = absurd (y.0 x.0 x.1)
rewritten_unique Q U room₀ room room' (suc c) (suc e) x y = put_unique (candidate_unique x.1.0 y.1.0) room₀ room room' (suc c) (suc e) x.2 y.2

pub rewrites_packets_unique : (qs us room₀ : List ℕ) (r q : Result ℕ Refusal) (room room' : List ℕ) → RewritesPackets qs us room₀ r room → RewritesPackets qs
    us room₀
    q room' → (r ≡ q) × (room ≡ room')
rewrites_packets_unique qs us room₀ r q room room' h k =
    one_room (rewrites_checks qs us (length room₀)) (Rewritten (packet_pattern qs) (packet_pattern us))
    (rewritten_unique (packet_pattern qs) (packet_pattern us)) room₀ r q room room' h.says k.says

pub copies_packet_unique : (bs room₀ : List ℕ) (r q : Result ℕ Refusal) (room room' : List ℕ) → CopiesPacket bs room₀ r room → CopiesPacket bs room₀ q room' →
    (r ≡ q)
    × (room ≡ room')
copies_packet_unique bs room₀ r q room room' h k =
    one_room (pattern_checks bs ++ room_for (length bs) (length room₀)) (λ room₀ c room. (c ≡ length bs) × (room ≡ bs ++ drop c room₀))
    (λ room₀ room room' c e x y. (x.0 ∙ sym y.0, x.1 ∙ ap (λ m. bs ++ drop m room₀) (x.0 ∙ sym y.0) ∙ sym y.1)) room₀ r q room room'
    h.says k.says

shown_unique : (A B : Pattern) → One (Shown A B)
shown_unique A B room₀ room room' zero zero x y =
    let W : ℕ → List ℕ = λ l. document_packet (witness_of (shape_of A) l) ++ (high (answer_node (shape_of A)) ∷ low (answer_node (shape_of A)) ∷ []) ++ drop
    (4 * witness_size (shape_of A) + 3 + 2) room₀ in
    (refl, x.written ∙ ap W (fresh_unique x.fresh y.fresh) ∙ sym y.written)
shown_unique A B room₀ room room' zero (suc zero) x y = absurd (x.not_contained y.contained)
shown_unique A B room₀ room room' zero (suc (suc e)) x y = absurd y
shown_unique A B room₀ room room' (suc zero) zero x y = absurd (y.not_contained x.contained)
shown_unique A B room₀ room room' (suc zero) (suc zero) x y = (
  refl,
  x.written ∙ ap (λ z. z ++ drop 64 room₀) (padded_ext x.by y.by B.count
      (least_map_unique (shape_of B) (shape_of A) x.by y.by x.least y.least)) ∙ sym y.written,
)
shown_unique A B room₀ room room' (suc zero) (suc (suc e)) x y = absurd y
shown_unique A B room₀ room room' (suc (suc c)) e x y = absurd x

pub contains_packets_unique : (xs ys room₀ : List ℕ) (r q : Result ℕ Refusal) (room room' : List ℕ) → ContainsPackets xs ys room₀ r room → ContainsPackets xs
    ys room₀
    q room' → (r ≡ q) × (room ≡ room')
contains_packets_unique xs ys room₀ r q room room' h k =
    one_room (contains_checks xs ys (length room₀)) (Shown (packet_pattern xs) (packet_pattern ys))
    (shown_unique (packet_pattern xs) (packet_pattern ys)) room₀ r q room room' h.says k.says
