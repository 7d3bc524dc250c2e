-- No second answer and no second content of the room fits a call on a document's packet. Assumes nothing.
use Rattle.tables.proofs.Kit.{ℕ, ◌*◌, ◌≡◌, sym, ap, ap₂, ◌∙◌, List, ◌++◌, length, drop, Result}
use Rattle.tables.specs.{Document.Document, Pattern.{Shape, shape_of}, declared.Refusal.Refusal}
use Rattle.halves.specs.Bytes.{packed, unpacked}
use Rattle.packets.specs.{PatternPacket.packet_pattern, DocumentPacket.packet_document}
use Rattle.packets.proofs.Putting.{One, one_room}
use Rattle.placing.specs.Answer.{Begins, Started, In}
use Rattle.placing.proofs.Listing.{lists_unique}
use Rattle.packet_answers.specs.Documents.{AnswersPut, packet_checks, AnswersPackets, start_checks, StartsPackets}

answers_unique : (First : ℕ → Type 0) (A : Shape) (d : Document) → One (AnswersPut First A d)
answers_unique First A d room₀ room room' c e x y =
    let s = lists_unique (Started First A d) x.answers y.answers x.lists y.lists in
    let n : c ≡ e = x.count ∙ ap length s ∙ sym y.count in
    (n, x.written ∙ ap₂ (λ (xs : List ℕ) (m : ℕ). packed xs ++ drop (2 * m) room₀) s n ∙ sym y.written)

pub answers_packets_unique : (ds ps room₀ : List ℕ) (r q : Result ℕ Refusal) (room room' : List ℕ) → AnswersPackets ds ps room₀ r room
    → AnswersPackets ds ps room₀ q room' → (r ≡ q) × (room ≡ room')
answers_packets_unique ds ps room₀ r q room room' h k =
    let A = shape_of (packet_pattern ps) in
    one_room (packet_checks ds ps (length room₀)) (AnswersPut (Begins A) A (packet_document ds)) (answers_unique (Begins A) A (packet_document ds))
    room₀ r q room room' h.says k.says

pub starts_packets_unique : (ds ps ss room₀ : List ℕ) (r q : Result ℕ Refusal) (room room' : List ℕ) → StartsPackets ds ps ss room₀ r room
    → StartsPackets ds ps ss room₀ q room' → (r ≡ q) × (room ≡ room')
starts_packets_unique ds ps ss room₀ r q room room' h k =
    let A = shape_of (packet_pattern ps) in
    one_room (start_checks ds ps ss (length room₀)) (AnswersPut (In (unpacked ss)) A (packet_document ds))
    (answers_unique (In (unpacked ss)) A (packet_document ds)) room₀ r q room room' h.says k.says
