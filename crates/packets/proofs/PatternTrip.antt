-- Pattern packets there and back: what is written reads as the same pattern, what is read writes as the same bytes, and no second result
-- fits either call. Assumes nothing.
use Rattle.tables.proofs.Kit.{ℕ, ◌+◌, ◌*◌, ◌/◌, ◌<◌, ◌≡◌, refl, sym, ◌∙◌, List, [], ◌∷◌, arith, length, get_or, Result}
use Rattle.tables.specs.{Column.blocks, Pattern.{Shape, shape_of, pattern_of, ValidShape, ValidPattern, Clean}}
use Rattle.tables.specs.{Refusal.{Check, Passes}, declared.Pattern.Pattern, declared.Refusal.Refusal}
use Rattle.tables.proofs.{Columns.blocks_ext, Rules.{Agree, pattern_of_shape, agree_sym, agree_trans, pattern_of_agree}}
use Rattle.tables.proofs.{Refusals.decided_unique, Agreement.valid_agree, Outcomes.decided_both}
use Rattle.halves.specs.Bytes.{Bytes, high, low, half}
use Rattle.packets.specs.PatternPacket.{pattern_length, step_bytes, pattern_packet, packet_shape, packet_pattern, pattern_checks}
use Rattle.packets.specs.{PatternPacket.{ReadsPattern, write_checks, WritesPattern}, Header.Sized}
use Rattle.packets.proofs.{Views.Read, Halves.{half_of_bytes, high_half, low_half, packet_length, packet_at_lem, packet_half, four, packet_self}}

-- the four bytes before the steps
abbrev pub head : Shape → List ℕ
head A = 1 ∷ high (pattern_length A.tree.size) ∷ low (pattern_length A.tree.size) ∷ A.output ∷ []

pub step_four : (A : Shape) (s : ℕ) → length (step_bytes A s) ≡ 4
unfolding step_bytes
step_four A s = refl

-- how many bytes the packet of a pattern has
pub pattern_packet_length : (A : Shape) → length (pattern_packet A) ≡ pattern_length A.tree.size + 3
unfolding pattern_packet
pattern_packet_length A = packet_length (head A) (step_bytes A) A.tree.size (step_four A) ∙ omega arith

-- entry r of step s stands at place 4 + 4 * s + r
step_at : (A : Shape) (s r i : ℕ) → s < A.tree.size → r < 4 → i ≡ 4 + 4 * s + r → get_or (pattern_packet A) i 0 ≡ get_or (step_bytes A s) r 0
unfolding pattern_packet
step_at A s r i = packet_at_lem (head A) (step_bytes A) A.tree.size s r i (step_four A)

packet_size : (A : Shape) → (packet_shape (pattern_packet A)).tree.size ≡ A.tree.size
unfolding packet_shape pattern_packet
packet_size A = omega arith

-- the packet of a pattern reads as that pattern
pub packet_shape_of_packet : {A : Shape} → ValidShape A → Agree (packet_shape (pattern_packet A)) A
unfolding packet_shape pattern_packet step_bytes
packet_shape_of_packet {A} v = record {
  size = packet_size A;
  output = refl;
  parent = λ s l. step_at A s 0 (4 + 4 * s) (omega (arith, packet_size A)) (omega arith) (omega arith);
  axis = λ s l. step_at A s 1 (5 + 4 * s) (omega (arith, packet_size A)) (omega arith) (omega arith);
  label = λ s l. packet_half (head A) (step_bytes A) A.tree.size s 2 (6 + 4 * s) (step_four A) (omega (arith, packet_size A)) (omega arith) (omega arith)
      ∙ half_of_bytes (A.label s);
}

-- the packet of a valid pattern has the length that it says
pub pattern_packet_sized : {A : Shape} → ValidShape A → Sized (pattern_packet A) 1 64 A.tree.size
unfolding pattern_packet
pattern_packet_sized {A} v = record { some = v.some; few = v.few; field = half_of_bytes (pattern_length A.tree.size); present = pattern_packet_length A }

-- a pattern that is written and read again has the table of its shape
pub written_then_read_any : (p : Pattern) → ValidPattern p → packet_pattern (pattern_packet (shape_of p)) ≡ pattern_of (shape_of p)
written_then_read_any p v = pattern_of_agree (packet_shape_of_packet v)

-- so a clean pattern is read as it was
pub written_then_read : (p : Pattern) → ValidPattern p → Clean p → packet_pattern (pattern_packet (shape_of p)) ≡ p
written_then_read p v c = written_then_read_any p v ∙ c

-- the packet of a valid pattern passes every check
pub pattern_packet_passes : {A : Shape} → ValidShape A → Passes (pattern_checks (pattern_packet A))
unfolding pattern_packet
pattern_packet_passes {A} v =
    let r : ValidPattern (packet_pattern (pattern_packet A)) =
    valid_agree (agree_sym (agree_trans (pattern_of_shape (packet_shape (pattern_packet A))) (packet_shape_of_packet v))) v in
    (omega (arith, pattern_packet_length A), (refl, ((A.tree.size, pattern_packet_sized v), (r, tt))))

-- the number of steps in the checks is the one that is read
pub sized_unique : {bs : List ℕ} {n : ℕ} → Sized bs 1 64 n → n ≡ half bs 1 / 4
sized_unique z = omega (arith, z.field)

-- shapes that agree have one packet
pub pattern_packet_agree : {A B : Shape} → Agree A B → pattern_packet A ≡ pattern_packet B
unfolding pattern_packet step_bytes
pattern_packet_agree {A} {B} e = cc (blocks_ext (step_bytes A) (step_bytes B) A.tree.size (λ s l. cc (e.parent s l, e.axis s l, e.label s l)))

-- the bytes of step s are the four at its place
step_read : (bs : List ℕ) → Bytes bs → (s : ℕ) → step_bytes (packet_shape bs) s ≡ four (λ j. get_or bs j 0) (4 + 4 * s)
unfolding step_bytes packet_shape four
step_read bs h s =
    let a : 5 + 4 * s ≡ 4 + 4 * s + 1 = omega arith in let b : 6 + 4 * s ≡ 4 + 4 * s + 2 = omega arith in
    let c : 6 + 4 * s + 1 ≡ 4 + 4 * s + 3 = omega arith in
    cc (high_half bs h (6 + 4 * s), low_half bs h (6 + 4 * s))

-- bytes of the right version and length are the packet of their shape
packet_of_shape : (bs : List ℕ) → Bytes bs → (n : ℕ) → Sized bs 1 64 n → get_or bs 0 0 ≡ 1 → pattern_packet (packet_shape bs) ≡ bs
unfolding pattern_packet packet_shape blocks
packet_of_shape bs h n z w =
    let l : pattern_length n ≡ half bs 1 = sym z.field in
    cc (
      sized_unique z,
      high_half bs h 1,
      low_half bs h 1,
      packet_self bs 4 n (omega (arith, z.present)),
      blocks_ext (step_bytes (packet_shape bs)) (λ s. four (λ j. get_or bs j 0) (4 + 4 * s)) n (λ s l. step_read bs h s),
    )

-- bytes that pass are the packet of the pattern that they are read as
pub read_then_written : (bs : List ℕ) → Bytes bs → Read bs → pattern_packet (shape_of (packet_pattern bs)) ≡ bs
read_then_written bs h r = pattern_packet_agree (pattern_of_shape (packet_shape bs)) ∙ packet_of_shape bs h r.head.rows r.head.sized r.head.version

-- no second result of reading fits
pub reads_pattern_unique : (bs : List ℕ) (r q : Result Pattern Refusal) → ReadsPattern bs r → ReadsPattern bs q → r ≡ q
reads_pattern_unique bs r q h k = decided_unique (pattern_checks bs) r q _ _ _ _ (λ p v x y. x ∙ sym y) h k

-- no second result of writing fits
pub writes_pattern_unique : (p : Pattern) (before : List ℕ) (r q : Result ℕ Refusal) (after after' : List ℕ)
    → WritesPattern p before r after → WritesPattern p before q after' → (r ≡ q) × (after ≡ after')
writes_pattern_unique p before r q after after' h k =
    let cs : List Check = write_checks p (length before) in
    (decided_unique cs r q _ _ _ _ (λ c e x y. x.0 ∙ sym y.0) h k, decided_both cs r q (λ c e x y. cc) (λ x y. cc) h k)
