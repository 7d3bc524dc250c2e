-- The nodes of a document packet where the header is right. Assumes nothing.
use Rattle.tables.proofs.Kit.{ℕ, ◌+◌, ◌*◌, ◌/◌, ◌≤◌, ◌≡◌, sym, ap, ap₂, ◌∙◌, List, ◌++◌, arith, take, take_at, Result}
use Rattle.tables.specs.{Column.column, Document.document_of, Refusal.{Refuses, Decided}, declared.Refusal.Refusal}
use Rattle.tables.proofs.{Columns.column_length, Outcomes.last_holds}
use Rattle.halves.specs.Bytes.{half}
use Rattle.packets.specs.{Header.head_checks, DocumentPacket.{nodes_in, packet_document, node_checks}}
use Rattle.packets.proofs.Views.{head_of, nodes_few}

-- what `rows_in` answers
abbrev pub Headed : List ℕ → ℕ → ℕ → Result ℕ Refusal → Type 0
Headed bs extra most r = Decided (head_checks bs extra most) r (λ n. n ≡ half bs 1 / 4) (Unit {0})

-- the fronts of two lists that begin with a packet's document are that document
pub document_fronts : (bs xs ys d e : List ℕ) (n : ℕ) → n ≡ nodes_in bs → xs ≡ (packet_document bs).parents ++ d → ys ≡ (packet_document bs).labels ++ e
    → document_of (take n xs) (take n ys) ≡ packet_document bs
unfolding packet_document
document_fronts bs xs ys d e n h f g = ap₂ (λ x y. document_of x y) (front (λ i. half bs (3 + 4 * i)) xs d f) (front (λ i. half bs (5 + 4 * i)) ys e g)
  where
    front : (f : ℕ → ℕ) (xs d : List ℕ) → xs ≡ column f (nodes_in bs) ++ d → take n xs ≡ column f (nodes_in bs)
    front f xs d p = ap (take n) p ∙ take_at (column f (nodes_in bs)) d n (column_length f (nodes_in bs) ∙ sym h)

-- lists with room for any document: what refuses is the header
pub nodes_refused : (bs : List ℕ) (a b : ℕ) → 2048 ≤ a → 2048 ≤ b → (r : Refusal) → Refuses (node_checks bs a b) r → Refuses (head_checks bs 0 2048) r
nodes_refused bs a b f g r h =
    last_holds (head_checks bs 0 2048) (record { asks = (nodes_in bs ≤ a) × (nodes_in bs ≤ b); gives = 5 }) r
    (λ p. let few = nodes_few (head_of bs 0 2048 p) in (omega (arith, few), omega (arith, few))) h
