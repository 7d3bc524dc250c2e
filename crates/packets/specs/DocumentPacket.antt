-- Document packets: their bytes, what they are read as, and the calls (docs/RULES.md, "Document packets").
--   node_bytes       the bytes of a node
--   document_packet  the bytes of a document
--   nodes_in         how many nodes a packet's length field stands for
--   packet_document  the document that bytes are read as
--   lists_check      the room of the two lists
--   document_rules   what a right packet is checked for, in order
--   document_checks  what reading checks, in order
--   node_checks      the same but for the rules
--   ReadsBy         what reading by given checks answers and leaves in the two lists
--   ReadsNodes      reading without the rules
--   ReadsDocument   reading with them
--   size_of          the length of a document's packet
--   put_checks       what writing checks, in order
--   WritesDocument  what writing answers and leaves in the buffer
-- Assumes nothing.
use Rattle.std.specs.Prelude.{ℕ, ◌+◌, ◌*◌, ◌/◌, ◌≤◌, ◌≡◌, List, [], ◌∷◌, ◌++◌, length, get_or, drop, Result}
use Rattle.tables.specs.Column.{blocks, column}
use Rattle.tables.specs.Checks.{document_right, room_for}
use Rattle.tables.specs.Document.{Document, node_count, document_of}
use Rattle.tables.specs.Refusal.{Check, Decided}
use Rattle.tables.specs.declared.Refusal.{Refusal}
use Rattle.halves.specs.Bytes.{high, low, half}
use Rattle.packets.specs.Header.{head_checks}

-- the four bytes of node i
unfoldable pub node_bytes : Document → ℕ → List ℕ
node_bytes d i =
    high (get_or d.parents i 0) ∷ low (get_or d.parents i 0) ∷ high (get_or d.labels i 0) ∷ low (get_or d.labels i 0) ∷ []

-- the packet of a document
unfoldable pub document_packet : Document → List ℕ
document_packet d = 1 ∷ high (4 * node_count d) ∷ low (4 * node_count d) ∷ blocks (node_bytes d) (node_count d)

-- how many nodes a packet's length field stands for
abbrev pub nodes_in : List ℕ → ℕ
nodes_in bs = half bs 1 / 4

-- the document that a packet holds
unfoldable pub packet_document : List ℕ → Document
packet_document bs = document_of (column (λ i. half bs (3 + 4 * i)) (nodes_in bs)) (column (λ i. half bs (5 + 4 * i)) (nodes_in bs))

-- room for a packet's nodes in lists of a and b entries
abbrev pub lists_check : List ℕ → ℕ → ℕ → List Check
lists_check bs a b = record { asks = (nodes_in bs ≤ a) × (nodes_in bs ≤ b); gives = 5 } ∷ []

-- a document packet that is right: its header, for 1 to 2,048 nodes, and the rules
abbrev pub document_rules : List ℕ → List Check
document_rules bs = head_checks bs 0 2048 ++ document_right (packet_document bs)

-- reading a document packet into two lists: that, and the room
abbrev pub document_checks : List ℕ → ℕ → ℕ → List Check
document_checks bs a b = document_rules bs ++ lists_check bs a b

-- reading without the rules: the header and the room
abbrev pub node_checks : List ℕ → ℕ → ℕ → List Check
node_checks bs a b = head_checks bs 0 2048 ++ lists_check bs a b

-- the nodes stand at the front of both lists and are counted where these checks hold; a refusal leaves both lists as they were
abbrev pub ReadsBy : List Check → List ℕ → List ℕ → List ℕ → Result ℕ Refusal → List ℕ → List ℕ → Type 0
ReadsBy checks bs parents₀ labels₀ r parents labels =
    Decided checks r (λ n.
    (n ≡ nodes_in bs) × (parents ≡ (packet_document bs).parents ++ drop n parents₀) × (labels ≡ (packet_document bs).labels ++ drop n labels₀))
    ((parents ≡ parents₀) × (labels ≡ labels₀))

-- reading without the rules
abbrev pub ReadsNodes : List ℕ → List ℕ → List ℕ → Result ℕ Refusal → List ℕ → List ℕ → Type 0
ReadsNodes bs parents₀ labels₀ = ReadsBy (node_checks bs (length parents₀) (length labels₀)) bs parents₀ labels₀

-- reading with them
abbrev pub ReadsDocument : List ℕ → List ℕ → List ℕ → Result ℕ Refusal → List ℕ → List ℕ → Type 0
ReadsDocument bs parents₀ labels₀ = ReadsBy (document_checks bs (length parents₀) (length labels₀)) bs parents₀ labels₀

-- the length of a document's packet
abbrev pub size_of : Document → ℕ
size_of d = 4 * node_count d + 3

-- writing a document into a buffer of m bytes: the rules, then the room
abbrev pub put_checks : Document → ℕ → List Check
put_checks d m = document_right d ++ room_for (size_of d) m

-- writing puts the packet at the front of the buffer and counts its bytes; a refusal leaves the buffer as it was
abbrev pub WritesDocument : Document → List ℕ → Result ℕ Refusal → List ℕ → Type 0
WritesDocument d before r after =
    Decided (put_checks d (length before)) r (λ c. (c ≡ size_of d) × (after ≡ document_packet d ++ drop c before)) (after ≡ before)
