-- Document packets there and back: what is written reads as the same document, what is read writes as the same bytes, and no second
-- result of reading or of writing fits. Assumes nothing.
use Rattle.tables.proofs.Kit.{ℕ, ◌+◌, ◌*◌, ◌<◌, ◌≤◌, ◌≡◌, refl, sym, ap, ap₂, ◌∙◌, subst, List, [], ◌∷◌, arith, length, get_or, Result}
use Rattle.tables.specs.{Column.{blocks, column}, Document.{Document, node_count, ValidDocument, document_of}}
use Rattle.tables.specs.{Refusal.{Check, Passes}, declared.Refusal.Refusal}
use Rattle.tables.proofs.{Columns.{blocks_ext, column_length, column_at, column_ext, column_self}, Refusals.decided_unique, Outcomes.decided_both}
use Rattle.halves.specs.Bytes.{Bytes, high, low, half}
use Rattle.packets.specs.DocumentPacket.{node_bytes, document_packet, nodes_in, packet_document, document_checks, node_checks}
use Rattle.packets.specs.{DocumentPacket.{ReadsBy, ReadsNodes, ReadsDocument, put_checks, WritesDocument}, Header.Sized}
use Rattle.packets.proofs.Halves.{half_of_bytes, high_half, low_half, packet_length, packet_half, four, packet_self}

-- the three bytes before the nodes
abbrev pub head : Document → List ℕ
head d = 1 ∷ high (4 * node_count d) ∷ low (4 * node_count d) ∷ []

pub node_four : (d : Document) (i : ℕ) → length (node_bytes d i) ≡ 4
unfolding node_bytes
node_four d i = refl

-- how many bytes the packet of a document has
pub document_packet_length : (d : Document) → length (document_packet d) ≡ 4 * node_count d + 3
unfolding document_packet
document_packet_length d = packet_length (head d) (node_bytes d) (node_count d) (node_four d) ∙ omega arith

-- the 16-bit number at entry r of node i stands at place 3 + 4 * i + r
node_half : (d : Document) (i r o : ℕ) → i < node_count d → r < 3 → o ≡ 3 + 4 * i + r → half (document_packet d) o ≡ half (node_bytes d i) r
unfolding document_packet
node_half d i r o = packet_half (head d) (node_bytes d) (node_count d) i r o (node_four d)

-- a packet stands for as many nodes as its document has
pub nodes_in_packet : (d : Document) → nodes_in (document_packet d) ≡ node_count d
unfolding document_packet
nodes_in_packet d = omega arith

-- a column of the entries of a list is that list
column_of : (f : ℕ → ℕ) (n : ℕ) (xs : List ℕ) → n ≡ length xs → ((i : ℕ) → i < n → f i ≡ get_or xs i 0) → column f n ≡ xs
column_of f n xs e h = column_ext f (λ i. get_or xs i 0) n h ∙ ap (column (λ i. get_or xs i 0)) e ∙ column_self xs

-- the packet of a document reads as that document
pub document_written_then_read : {d : Document} → ValidDocument d → packet_document (document_packet d) ≡ d
unfolding packet_document node_bytes
document_written_then_read {d} v =
    let bs : List ℕ = document_packet d in let n : nodes_in bs ≡ node_count d = nodes_in_packet d in
    ap₂ (λ x y. document_of x y)
    (column_of (λ i. half bs (3 + 4 * i)) (nodes_in bs) d.parents n
    (λ i l. node_half d i 0 (3 + 4 * i) (omega arith) (omega arith) (omega arith) ∙ half_of_bytes (get_or d.parents i 0)))
    (column_of (λ i. half bs (5 + 4 * i)) (nodes_in bs) d.labels (n ∙ sym v.equal)
    (λ i l. node_half d i 2 (5 + 4 * i) (omega arith) (omega arith) (omega arith) ∙ half_of_bytes (get_or d.labels i 0)))

-- the packet of a valid document has the length that it says
pub document_packet_sized : {d : Document} → ValidDocument d → Sized (document_packet d) 0 2048 (node_count d)
unfolding document_packet
document_packet_sized {d} v = record {
  some = v.some;
  few = v.few;
  field = half_of_bytes (4 * node_count d) ∙ omega arith;
  present = document_packet_length d ∙ omega arith;
}

-- the packet of a valid document passes every check, where both lists have room
pub document_packet_passes : {d : Document} → ValidDocument d → (a b : ℕ) → node_count d ≤ a → node_count d ≤ b
    → Passes (document_checks (document_packet d) a b)
unfolding document_packet
document_packet_passes {d} v a b f g =
    let n : nodes_in (document_packet d) ≡ node_count d = nodes_in_packet d in
    let r : ValidDocument (packet_document (document_packet d)) = subst ValidDocument (sym (document_written_then_read v)) v in
    (omega (arith, document_packet_length d), (refl, ((node_count d, document_packet_sized v), (r, ((omega arith, omega arith), tt)))))

-- the number of nodes in the checks is the one that is read
pub document_sized_unique : {bs : List ℕ} {n : ℕ} → Sized bs 0 2048 n → n ≡ nodes_in bs
document_sized_unique z = omega (arith, z.field)

-- the bytes of node i are the four at its place
node_read : (bs : List ℕ) → Bytes bs → (i : ℕ) → i < nodes_in bs → node_bytes (packet_document bs) i ≡ four (λ j. get_or bs j 0) (3 + 4 * i)
unfolding node_bytes packet_document four
node_read bs h i l =
    let a : 5 + 4 * i ≡ 3 + 4 * i + 2 = omega arith in let b : 5 + 4 * i + 1 ≡ 3 + 4 * i + 3 = omega arith in
    cc (
      column_at (λ i. half bs (3 + 4 * i)) (nodes_in bs) i l,
      column_at (λ i. half bs (5 + 4 * i)) (nodes_in bs) i l,
      high_half bs h (3 + 4 * i),
      low_half bs h (3 + 4 * i),
      high_half bs h (5 + 4 * i),
      low_half bs h (5 + 4 * i),
    )

-- bytes of the right version and length are the packet of the document that they are read as
pub document_read_then_written : (bs : List ℕ) → Bytes bs → (n : ℕ) → Sized bs 0 2048 n → get_or bs 0 0 ≡ 1 → document_packet (packet_document bs) ≡ bs
unfolding document_packet packet_document blocks
document_read_then_written bs h n z w =
    let q : n ≡ nodes_in bs = document_sized_unique z in let l : 4 * n ≡ half bs 1 = omega (arith, z.field) in
    cc (
      column_length (λ i. half bs (3 + 4 * i)) (nodes_in bs),
      high_half bs h 1,
      low_half bs h 1,
      packet_self bs 3 n (omega (arith, z.present)),
      blocks_ext (node_bytes (packet_document bs)) (λ i. four (λ j. get_or bs j 0) (3 + 4 * i)) n (λ i l. node_read bs h i (omega arith)),
    )

-- whatever is checked, no second result of reading fits
reads_by_unique : (cs : List Check) (bs parents₀ labels₀ : List ℕ) (r q : Result ℕ Refusal) (parents parents' labels labels' : List ℕ)
    → ReadsBy cs bs parents₀ labels₀ r parents labels → ReadsBy cs bs parents₀ labels₀ q parents' labels' → (r ≡ q) × (parents ≡ parents') × (labels ≡ labels')
reads_by_unique cs bs parents₀ labels₀ r q parents parents' labels labels' h k =
    let a : r ≡ q = decided_unique cs r q _ _ _ _ (λ c e x y. x.0 ∙ sym y.0) h k in
    let b : (parents ≡ parents') × (labels ≡ labels') = decided_both cs r q (λ c e x y. ((cc), (cc))) (λ x y. ((cc), (cc))) h k in
    (a, b.0, b.1)

-- not of reading the nodes
pub reads_nodes_unique : (bs parents₀ labels₀ : List ℕ) (r q : Result ℕ Refusal) (parents parents' labels labels' : List ℕ)
    → ReadsNodes bs parents₀ labels₀ r parents labels → ReadsNodes bs parents₀ labels₀ q parents' labels' → (r ≡ q) × (parents ≡ parents') × (labels ≡ labels')
reads_nodes_unique bs parents₀ labels₀ = reads_by_unique (node_checks bs (length parents₀) (length labels₀)) bs parents₀ labels₀

-- nor of reading the document
pub reads_document_unique : (bs parents₀ labels₀ : List ℕ) (r q : Result ℕ Refusal) (parents parents' labels labels' : List ℕ)
    → ReadsDocument bs parents₀ labels₀ r parents labels → ReadsDocument bs parents₀ labels₀ q parents' labels' → (r ≡ q) × (parents ≡ parents') ×
    (labels ≡ labels')
reads_document_unique bs parents₀ labels₀ = reads_by_unique (document_checks bs (length parents₀) (length labels₀)) bs parents₀ labels₀

-- nor of writing it
pub writes_document_unique : (d : Document) (before : List ℕ) (r q : Result ℕ Refusal) (after after' : List ℕ)
    → WritesDocument d before r after → WritesDocument d before q after' → (r ≡ q) × (after ≡ after')
writes_document_unique d before r q after after' h k =
    let cs : List Check = put_checks d (length before) in
    (decided_unique cs r q _ _ _ _ (λ c e x y. x.0 ∙ sym y.0) h k, decided_both cs r q (λ c e x y. cc) (λ x y. cc) h k)
