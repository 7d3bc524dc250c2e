-- The first 8,716 bytes of an input decide what is printed: whatever follows them changes nothing. Assumes nothing.
use Rattle.tables.proofs.Kit.{ℕ, ◌+◌, ◌*◌, ◌-◌, ◌≤◌, ◌<◌, ◌≡◌, sym, ap, ap₂, ◌∙◌, subst, inl, inr, ⊎_elim, List, [], ◌∷◌, arith, dec_lt}
use Rattle.tables.proofs.Kit.{length, get_or, take, drop, length-drop, take_all, take-take, take-add, length-take-le, get_or-take, get_or-drop, drop_at}
use Rattle.tables.specs.{Refusal.{Passes, Refuses}, declared.Refusal.Refusal}
use Rattle.halves.specs.Bytes.{half}
use Rattle.packets.specs.{PatternPacket.pattern_checks, DocumentPacket.document_rules}
use Rattle.asking.specs.{Parts.{packet_at, next_at}, Replies.{Replies, document, view, query, extra, answered}}

-- the first three bytes of a packet are those of the input
part_half : (bs : List ℕ) (o : ℕ) → half (packet_at bs o) 1 ≡ half bs (o + 1)
unfolding packet_at
part_half bs o = let e : o + 1 + 1 ≡ o + 2 = omega arith in ap₂ (λ x y. x * 256 + y) (byte 1 (omega arith)) (byte 2 (omega arith)) ∙ rw e
  where
    byte : (k : ℕ) → k < half bs (o + 1) + 3 → get_or (take (half bs (o + 1) + 3) (drop o bs)) k 0 ≡ get_or bs (o + k) 0
    byte k l = get_or-take (half bs (o + 1) + 3) (drop o bs) k 0 l ∙ get_or-drop o bs k 0

-- the version byte
part_version : (bs : List ℕ) (o : ℕ) → get_or (packet_at bs o) 0 0 ≡ get_or bs o 0
unfolding packet_at
part_version bs o = let e : o + 0 ≡ o = omega arith in get_or-take (half bs (o + 1) + 3) (drop o bs) 0 0 (omega arith) ∙ get_or-drop o bs 0 0 ∙ rw e

-- where three bytes are left, the packet has them
part_long : (bs : List ℕ) (o : ℕ) → o + 3 ≤ length bs → 3 ≤ length (packet_at bs o)
unfolding packet_at
part_long bs o l = go (dec_lt (length (drop o bs)) (half bs (o + 1) + 3))
  where
    go : Dec (length (drop o bs) < half bs (o + 1) + 3) → 3 ≤ length (take (half bs (o + 1) + 3) (drop o bs))
    go (yes h) = omega (arith, ap length (take_all (half bs (o + 1) + 3) (drop o bs) (omega arith)), length-drop o bs)
    go (no h) = omega (arith, length-take-le (half bs (o + 1) + 3) (drop o bs) (omega arith))

-- a packet that is too long on either side of a cut is refused on both by the same number
moved : (A B C D A' B' C' D' : Type 0) (i j k l : ℕ) (r : Refusal) → A → A' → (B → B') → (B' → B) → (C → ⊥) → (C' → ⊥)
    → Refuses (record { asks = A; gives = i } ∷ record { asks = B; gives = j } ∷ record { asks = C; gives = k } ∷ record { asks = D; gives = l } ∷ []) r
    → Refuses (record { asks = A'; gives = i } ∷ record { asks = B'; gives = j } ∷ record { asks = C'; gives = k } ∷ record { asks = D'; gives = l } ∷ []) r
moved A B C D A' B' C' D' i j k l r a b f g c d h =
    ⊎_elim (λ w. absurd (w.0 a)) (λ w. inr (
      b,
      ⊎_elim (λ x. inl ((λ y. x.0 (g y)), x.1)) (λ x. inr (f x.0, ⊎_elim (λ y. inl (d, y.1)) (λ y. absurd (c y.0)) x.1)) w.1,
    )) h

-- an input of more than n bytes, and its first n
module _ (bs : List ℕ) (n : ℕ) (m : 8716 ≤ n) (l : n < length bs) where
  -- the front has n bytes
  front_length : length (take n bs) ≡ n
  front_length = length-take-le n bs (omega arith)

  -- a length field within the front
  front_half : (o : ℕ) → o + 3 ≤ n → half (take n bs) (o + 1) ≡ half bs (o + 1)
  front_half o h = ap₂ (λ x y. x * 256 + y) (get_or-take n bs (o + 1) 0 (omega arith)) (get_or-take n bs (o + 1 + 1) 0 (omega arith))

  -- a packet that ends within the first n bytes is there whole
  same_part : (o : ℕ) → o + (half bs (o + 1) + 3) ≤ n → packet_at (take n bs) o ≡ packet_at bs o
  unfolding packet_at
  same_part o h =
      let e : n ≡ o + (n - o) = omega arith in
      let f : drop o (take n bs) ≡ take (n - o) (drop o bs) =
      ap (λ k. drop o (take k bs)) e ∙ ap (drop o) (take-add o (n - o) bs) ∙ drop_at (take o bs) (take (n - o) (drop o bs)) o
      (length-take-le o bs (omega arith)) in
      ap₂ take (ap (λ x. x + 3) (front_half o (omega arith))) f ∙ take-take (half bs (o + 1) + 3) (n - o) (drop o bs) (omega arith)

  -- and the next packet begins at the same byte
  same_next : (o : ℕ) → o + (half bs (o + 1) + 3) ≤ n → next_at (take n bs) o ≡ next_at bs o
  unfolding next_at
  same_next o h = ap (λ x. o + length x) (same_part o h)

  -- what the two packets have in common in any case
  version_there : (o : ℕ) → o + 3 ≤ n → get_or (packet_at (take n bs) o) 0 0 ≡ get_or (packet_at bs o) 0 0
  version_there o h = part_version (take n bs) o ∙ get_or-take n bs o 0 (omega arith) ∙ sym (part_version bs o)

  -- the length field
  field_there : (o : ℕ) → o + 3 ≤ n → half (packet_at (take n bs) o) 1 ≡ half bs (o + 1)
  field_there o h = part_half (take n bs) o ∙ front_half o h

  -- what refuses the document packet of the front refuses that of the input
  document_front : (r : Refusal) → Refuses (document_rules (packet_at (take n bs) 0)) r → Refuses (document_rules (packet_at bs 0)) r
  document_front r w = go (dec_lt n (half bs 1 + 3))
    where
      go : Dec (n < half bs 1 + 3) → Refuses (document_rules (packet_at bs 0)) r
      go (no g) = subst (λ x. Refuses (document_rules x) r) (same_part 0 (omega arith)) w
      go (yes g) =
          moved _ _ _ _ _ _ _ _ 2 1 2 4 r (part_long (take n bs) 0 (omega (arith, front_length))) (part_long bs 0 (omega arith))
          (λ e. sym (version_there 0 (omega arith)) ∙ e) (λ e. version_there 0 (omega arith) ∙ e)
          (λ z. omega (arith, z.1.field, z.1.few, field_there 0 (omega arith))) (λ z. omega (arith, z.1.field, z.1.few, part_half bs 0)) w

  -- a packet begins at byte u of the front and at byte o of the input, which are one, and early enough
  record BeginsAt (u o : ℕ) : Type 0 where
    same : u ≡ o
    low : o ≤ 8455

  -- where the document packet is right, it lies within the first n bytes, and the next packet begins at one byte of both
  module _ (p : Passes (document_rules (packet_at (take n bs) 0))) where
    document_within : 0 + (half bs (0 + 1) + 3) ≤ n
    document_within = let z = p.1.1.0 in omega (arith, z.1.field, z.1.few, field_there 0 (omega arith))

    document_right_lem : Passes (document_rules (packet_at bs 0))
    document_right_lem = subst (λ x. Passes (document_rules x)) (same_part 0 document_within) p

    document_low : next_at bs 0 ≤ 8195
    unfolding next_at
    document_low = let z = p.1.1.0 in omega (arith, ap length (same_part 0 document_within), z.1.present, z.1.few)

    view_begins : BeginsAt (next_at (take n bs) 0) (next_at bs 0)
    view_begins = record { same = same_next 0 document_within; low = omega (arith, document_low) }

  module _ {u o : ℕ} (e : BeginsAt u o) where
    -- what refuses a pattern packet of the front refuses that of the input
    pattern_front : (r : Refusal) → Refuses (pattern_checks (packet_at (take n bs) u)) r → Refuses (pattern_checks (packet_at bs o)) r
    pattern_front r h = go (subst (λ k. Refuses (pattern_checks (packet_at (take n bs) k)) r) e.same h) (dec_lt n (o + (half bs (o + 1) + 3)))
      where
        go : Refuses (pattern_checks (packet_at (take n bs) o)) r → Dec (n < o + (half bs (o + 1) + 3)) → Refuses (pattern_checks (packet_at bs o)) r
        go w (no g) = subst (λ x. Refuses (pattern_checks x) r) (same_part o (omega arith)) w
        go w (yes g) =
            let k = e.low in
            moved _ _ _ _ _ _ _ _ 2 1 2 3 r (part_long (take n bs) o (omega (arith, front_length))) (part_long bs o (omega arith))
            (λ y. sym (version_there o (omega arith)) ∙ y) (λ y. version_there o (omega arith) ∙ y)
            (λ z. omega (arith, z.1.field, z.1.few, field_there o (omega arith))) (λ z. omega (arith, z.1.field, z.1.few, part_half bs o)) w

    -- where it is right, it lies within the first n bytes, and what follows begins at one byte of both
    module _ (q : Passes (pattern_checks (packet_at (take n bs) u))) where
      there : Passes (pattern_checks (packet_at (take n bs) o))
      there = subst (λ k. Passes (pattern_checks (packet_at (take n bs) k))) e.same q

      pattern_within : o + (half bs (o + 1) + 3) ≤ n
      pattern_within = let z = there.1.1.0 in let k = e.low in omega (arith, z.1.field, z.1.few, field_there o (omega arith))

      pattern_right_lem : Passes (pattern_checks (packet_at bs o))
      pattern_right_lem = subst (λ x. Passes (pattern_checks x)) (same_part o pattern_within) there

      pattern_next : next_at (take n bs) u ≡ next_at bs o
      pattern_next = ap (next_at (take n bs)) e.same ∙ same_next o pattern_within

      pattern_low : next_at bs o ≤ o + 260
      unfolding next_at
      pattern_low = let z = there.1.1.0 in omega (arith, ap length (same_part o pattern_within), z.1.present, z.1.few)

  query_begins : (p : Passes (document_rules (packet_at (take n bs) 0))) → Passes (pattern_checks (packet_at (take n bs) (next_at (take n bs) 0)))
      → BeginsAt (next_at (take n bs) (next_at (take n bs) 0)) (next_at bs (next_at bs 0))
  query_begins p q = record { same = pattern_next (view_begins p) q; low = omega (arith, document_low p, pattern_low (view_begins p) q) }

  -- so the front's text is that of the input, whichever case it is
  long_front : (text : List ℕ) → Replies (take n bs) text → Replies bs text
  long_front text (document r h e) = document r (document_front r h) e
  long_front text (view r p h e) = view r (document_right_lem p) (pattern_front (view_begins p) r h) e
  long_front text (query r p h e) =
      query r (document_right_lem p.0, pattern_right_lem (view_begins p.0) p.1) (pattern_front (query_begins p.0 p.1) r h) e
  long_front text (extra p h e) =
      let v = view_begins p.0.0 in let q = query_begins p.0.0 p.0.1 in
      extra ((document_right_lem p.0.0, pattern_right_lem v p.0.1), pattern_right_lem q p.1) (omega (arith, q.low, pattern_low q p.1)) e
  long_front text (answered p h a) =
      let q = query_begins p.0.0 p.0.1 in
      absurd (omega (arith, front_length, q.low, pattern_next q p.1, pattern_low q p.1))

-- the text for the first n bytes is the text for the input, where n is at least one more than right input has
pub replies_front : (bs : List ℕ) (n : ℕ) → 8716 ≤ n → (text : List ℕ) → Replies (take n bs) text → Replies bs text
replies_front bs n m text h = go (dec_lt n (length bs))
  where
    go : Dec (n < length bs) → Replies bs text
    go (yes l) = long_front bs n m l text h
    go (no l) = subst (λ x. Replies x text) (take_all n bs (omega arith)) h
