-- The outcomes of the reply, from what the calls on its packets answered: each is one text of `Replies`. Assumes nothing.
use Rattle.tables.proofs.Kit.{ℕ, ◌<◌, ◌≡◌, refl, sym, ap, ◌∙◌, subst, List, length, take, replicate, arith, Result, Ok, Err}
use Rattle.tables.specs.{Document.{ValidDocument, document_of}, Refusal.{number, Passes, Refuses}}
use Rattle.tables.specs.{declared.Pattern.Pattern, declared.Refusal.Refusal}
use Rattle.packets.specs.{PatternPacket.{packet_pattern, pattern_checks, ReadsPattern}, DocumentPacket.{ReadsDocument, document_rules}}
use Rattle.packets.proofs.{Reading.document_fronts, Views.read_document_of}
use Rattle.asking.specs.{Text.{document_word, view_word, query_word, input_word, refused_line}, Parts.{document_part, view_part, query_part}}
use Rattle.asking.specs.Replies.{document_in, AllRight, document, view, query, extra, answered, Replies, Answered}
use Rattle.asking.specs.{inner.Writing.{Grew, Puts}, declared.text.Text.Text}
use Rattle.asking.proofs.Parts.{Parted, rest_length, rules_refuse, rules_pass}

-- reading the document packet into two lists of 2,048 entries
abbrev pub DocumentRead : List ℕ → Result ℕ Refusal → List ℕ → List ℕ → Type 0
DocumentRead d r ps ls = ReadsDocument d (replicate 2048 0) (replicate 2048 0) r ps ls

-- one text has been put
puts : {bs text : List ℕ} {x y : Text} → Replies bs text → Grew x text y → Puts (Replies bs) x y
puts {bs} {text} h g = record { text = text; holds = h; grew = g }

-- the document packet is the input's
module _ (bs : List ℕ) {d : List ℕ} (w : d ≡ document_part bs) where
  -- the document packet is refused
  pub document_refused : {x y : Text} {ps ls : List ℕ} (r : Refusal) → DocumentRead d (Err r) ps ls → Grew x (refused_line (number r) document_word) y
      → Puts (Replies bs) x y
  document_refused {ps = ps} {ls = ls} r h =
      let k : DocumentRead (document_part bs) (Err r) ps ls = rw w at h in
      puts (document r (rules_refuse (document_part bs) 2048 2048 r (omega arith) (omega arith) k.0) refl)

  -- the document packet is right
  module _ {n : ℕ} {ps ls : List ℕ} (h : DocumentRead d (Ok n) ps ls) where
    rules_right : Passes (document_rules (document_part bs))
    rules_right = rules_pass (document_part bs) 2048 2048 (subst (λ l. DocumentRead l (Ok n) ps ls) w h).0

    -- what was read is its document
    lists_are : document_of (take n ps) (take n ls) ≡ document_in bs
    lists_are =
        let k = subst (λ l. DocumentRead l (Ok n) ps ls) w h in
        document_fronts (document_part bs) ps ls _ _ n k.1.0 k.1.1 k.1.2

    -- and obeys the rules
    pub lists_right : ValidDocument (document_of (take n ps) (take n ls))
    lists_right = subst ValidDocument (sym lists_are) (read_document_of (document_part bs) rules_right).right

    -- the view packet is the input's
    module _ {v : List ℕ} (e : v ≡ view_part bs) where
      -- the view packet is refused
      pub view_refused : {x y : Text} (r : Refusal) → ReadsPattern v (Err r) → Grew x (refused_line (number r) view_word) y → Puts (Replies bs) x y
      view_refused r k = puts (view r rules_right (subst (λ l. Refuses (pattern_checks l) r) e k.0) refl)

      -- the view packet is right
      module _ {U : Pattern} (u : ReadsPattern v (Ok U)) where
        view_right : Passes (pattern_checks (view_part bs))
        view_right = subst (λ l. Passes (pattern_checks l)) e u.0

        -- the query packet is the input's
        module _ {q : List ℕ} (f : q ≡ query_part bs) where
          -- the query packet is refused
          pub query_refused : {x y : Text} (r : Refusal) → ReadsPattern q (Err r) → Grew x (refused_line (number r) query_word) y → Puts (Replies bs) x y
          query_refused r k = puts (query r (rules_right, view_right) (subst (λ l. Refuses (pattern_checks l) r) f k.0) refl)

          -- the query packet is right
          module _ {Q : Pattern} (k : ReadsPattern q (Ok Q)) where
            query_right : Passes (pattern_checks (query_part bs))
            query_right = subst (λ l. Passes (pattern_checks l)) f k.0

            -- so all three are
            all_right : AllRight bs
            all_right = ((rules_right, view_right), query_right)

-- all three packets are right, and the input is in its parts
module _ {bs d v q t : List ℕ} (w : Parted bs d v q t) {n : ℕ} {ps ls : List ℕ} (h : DocumentRead d (Ok n) ps ls) where
  module _ {U Q : Pattern} (u : ReadsPattern v (Ok U)) (k : ReadsPattern q (Ok Q)) where
    right : AllRight bs
    right = all_right bs w.document h w.view u w.query k

    -- bytes stand past them
    pub extra_refused : {x y : Text} → 0 < length t → Grew x (refused_line 2 input_word) y → Puts (Replies bs) x y
    extra_refused l = puts (extra right (omega (arith, l, rest_length w)) refl)

    -- nothing does
    pub all_answered : {x y : Text} → length t ≡ 0 → Puts (Answered (document_of (take n ps) (take n ls)) Q U) x y → Puts (Replies bs) x y
    all_answered l p =
        let a = u.1 ∙ ap packet_pattern w.view in
        let b = k.1 ∙ ap packet_pattern w.query in
        puts (answered right (omega (arith, l, rest_length w)) (rw (lists_are bs w.document h, b, a) at p.holds)) p.grew
