-- What a containment call puts in the room: the packet of a witness and its answer node, or a mapping. Assumes nothing.
use Rattle.tables.proofs.Kit.{ℕ, ◌+◌, ◌*◌, ◌≤◌, ◌≡◌, sym, ap, ◌∙◌, List, [], ◌∷◌, ◌++◌, arith, get_or, take, drop, get_or-map, ext_get_or}
use Rattle.tables.specs.{Column.{column, padded, step_no, step_array}, Document.{Document, node_count}, declared.StepNo.StepNo}
use Rattle.tables.proofs.Columns.{put_block, column_length, column_at, padded_length}
use Rattle.halves.specs.Bytes.{high, low}
use Rattle.packets.specs.DocumentPacket.{document_packet}
use Rattle.packets.proofs.DocumentTrip.{document_packet_length}

-- a node after the packet of a document
pub written_node : (d : Document) (room out next : List ℕ) (x : ℕ) → out ≡ document_packet d ++ drop (4 * node_count d + 3) room
    → next ≡ take (4 * node_count d + 3) out ++ (high x ∷ low x ∷ []) ++ drop (4 * node_count d + 3 + 2) out
    → next ≡ document_packet d ++ (high x ∷ low x ∷ []) ++ drop (4 * node_count d + 3 + 2) room
written_node d room out next x e f =
    f
    ∙ ap (λ l. take (4 * node_count d + 3) l ++ (high x ∷ low x ∷ []) ++ drop (4 * node_count d + 3 + 2) l) e
    ∙ put_block (document_packet d) (high x ∷ low x ∷ []) room (4 * node_count d + 3) 2 (document_packet_length d)

-- the bytes of a mapping's array
pub mapping_bytes : (f : ℕ → ℕ) (n : ℕ) (m : List StepNo) → n ≤ 64 → m ≡ step_array f n → column (λ k. (get_or m k (step_no 0)).0) 64 ≡ padded f n
unfolding step_array
mapping_bytes f n m l e =
    let g : ℕ → ℕ = λ k. (get_or m k (step_no 0)).0 in
    ext_get_or 0 (column g 64) (padded f n) (column_length g 64 ∙ sym (padded_length f n l))
    (λ k h. column_at g 64 k (omega (arith, column_length g 64)) ∙ ap (λ xs. (get_or xs k (step_no 0)).0) e ∙ ap (λ s. s.0)
    (get_or-map step_no (padded f n) k 0))
