-- How the packets of an input are split off, and what reading the document packet says of it. Assumes nothing.
use Rattle.tables.proofs.Kit.{ℕ, ◌+◌, ◌*◌, ◌-◌, ◌≤◌, ◌<◌, ◌≡◌, min, sym, ap, ap₂, ◌∙◌, List, arith, dec_lt}
use Rattle.tables.proofs.Kit.{length, take, drop, length-drop, take_all, length-take-le, get_or-drop, drop-drop}
use Rattle.tables.specs.{Refusal.{Passes, Refuses}, declared.Refusal.Refusal}
use Rattle.tables.proofs.Outcomes.{last_holds}
use Rattle.halves.specs.Bytes.{half}
use Rattle.packets.specs.DocumentPacket.{nodes_in, document_checks, document_rules}
use Rattle.asking.specs.Parts.{packet_at, next_at, document_part, view_part, query_part, parts_end}

-- a packet that ends within the input, and one that does not
packet_is : (bs : List ℕ) (m : ℕ) → m ≡ min (half bs 1 + 3) (length bs) → take m bs ≡ packet_at bs 0
unfolding packet_at
packet_is bs m e = go (dec_lt (half bs 1 + 3) (length bs))
  where
    go : Dec (half bs 1 + 3 < length bs) → take m bs ≡ take (half bs 1 + 3) bs
    go (yes h) = ap (λ k. take k bs) (omega (arith, e))
    go (no h) = take_all m bs (omega (arith, e)) ∙ sym (take_all (half bs 1 + 3) bs (omega arith))

-- the packet at the front of an input, split off
pub split_lem : (bs : List ℕ) (m : ℕ) → m ≡ min (half bs 1 + 3) (length bs) → (take m bs ≡ packet_at bs 0) × (drop m bs ≡ drop (next_at bs 0) bs)
unfolding next_at
split_lem bs m e =
    let p = packet_is bs m e in
    (p, ap (λ k. drop k bs) {x = m} {y = 0 + length (packet_at bs 0)} (omega (arith, e, ap length p, length-take-le m bs (omega (arith, e)))))

-- what follows byte o begins with the packet at byte o
later_packet : (bs : List ℕ) (o : ℕ) → packet_at (drop o bs) 0 ≡ packet_at bs o
unfolding packet_at
later_packet bs o =
    let e : o + 1 + 1 ≡ o + 2 = omega arith in
    ap (λ k. take (k + 3) (drop o bs)) (ap₂ (λ x y. x * 256 + y) (get_or-drop o bs 1 0) (get_or-drop o bs 2 0 ∙ rw e))

-- and goes on at the next byte
later_rest : (bs : List ℕ) (o : ℕ) → drop (next_at (drop o bs) 0) (drop o bs) ≡ drop (next_at bs o) bs
unfolding next_at
later_rest bs o =
    let p = later_packet bs o in
    drop-drop (next_at (drop o bs) 0) o bs
    ∙ ap (λ k. drop k bs) {x = o + next_at (drop o bs) 0} {y = next_at bs o} (omega (arith, ap length p))

-- an input in its parts: the three packets, and what follows them
pub record Parted (bs d v q t : List ℕ) : Type 0 where
  pub document : d ≡ document_part bs
  pub view : v ≡ view_part bs
  pub query : q ≡ query_part bs
  pub rest : t ≡ drop (parts_end bs) bs

-- the packet that is split off what follows byte o is the packet at byte o
pub packet_after : (bs : List ℕ) {r v : List ℕ} (o : ℕ) → r ≡ drop o bs → v ≡ packet_at r 0 → v ≡ packet_at bs o
packet_after bs o b e = e ∙ ap (λ l. packet_at l 0) b ∙ later_packet bs o

-- and what is left of it follows that packet
pub rest_after : (bs : List ℕ) {r s : List ℕ} (o : ℕ) → r ≡ drop o bs → s ≡ drop (next_at r 0) r → s ≡ drop (next_at bs o) bs
rest_after bs o b f = f ∙ ap (λ l. drop (next_at l 0) l) b ∙ later_rest bs o

-- split off one after another
pub parted : {bs d r v s q t : List ℕ} → d ≡ packet_at bs 0 → r ≡ drop (next_at bs 0) bs → v ≡ packet_at r 0 → s ≡ drop (next_at r 0) r → q ≡ packet_at s 0
    → t ≡ drop (next_at s 0) s → Parted bs d v q t
parted {bs} a b e f g h =
    let o = next_at bs 0 in
    let p = next_at bs o in
    let u = rest_after bs o b f in
    record { document = a; view = packet_after bs o b e; query = packet_after bs p u g; rest = rest_after bs p u h }

-- bytes stand past the query exactly where something follows it
pub rest_length : {bs d v q t : List ℕ} → Parted bs d v q t → length t ≡ length bs - parts_end bs
rest_length {bs} p = ap length p.rest ∙ length-drop (parts_end bs) bs

-- a document packet that is right has at most 2,048 nodes
pub nodes_few : (bs : List ℕ) → Passes (document_rules bs) → nodes_in bs ≤ 2048
nodes_few bs p = let z = p.1.1.0 in omega (arith, z.1.field, z.1.few)

-- so lists of 2,048 entries have room for it, and reading refuses by its rules alone
pub rules_refuse : (bs : List ℕ) (a b : ℕ) (r : Refusal) → 2048 ≤ a → 2048 ≤ b → Refuses (document_checks bs a b) r → Refuses (document_rules bs) r
rules_refuse bs a b r l m h =
    last_holds (document_rules bs) (record { asks = (nodes_in bs ≤ a) × (nodes_in bs ≤ b); gives = 5 }) r
    (λ p. (omega (arith, nodes_few bs p), omega (arith, nodes_few bs p))) h

pub rules_pass : (bs : List ℕ) (a b : ℕ) → Passes (document_checks bs a b) → Passes (document_rules bs)
rules_pass bs a b p = (p.0, (p.1.0, (p.1.1.0, (p.1.1.1.0, tt))))

-- as many entries as the first entries are
take_again : (xs : List ℕ) (m : ℕ) → take (length (take m xs)) xs ≡ take m xs
take_again xs m = go (dec_lt (length xs) m)
  where
    go : Dec (length xs < m) → take (length (take m xs)) xs ≡ take m xs
    go (yes h) = take_all (length (take m xs)) xs (omega (arith, ap length (take_all m xs (omega arith)))) ∙ sym (take_all m xs (omega arith))
    go (no h) = ap (λ k. take k xs) (length-take-le m xs (omega arith))

-- the bytes up to the next packet are the packet
pub part_is : (bs : List ℕ) (o : ℕ) → take (next_at bs o - o) (drop o bs) ≡ packet_at bs o
unfolding next_at packet_at
part_is bs o =
    ap (λ k. take k (drop o bs)) {x = next_at bs o - o} {y = length (take (half bs (o + 1) + 3) (drop o bs))} (omega arith) ∙ take_again (drop o bs)
    (half bs (o + 1) + 3)
