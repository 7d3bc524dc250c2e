-- No second text fits an input, so no second count or buffer fits the call. Assumes nothing.
use Rattle.tables.proofs.Kit.{ℕ, ◌≤◌, ◌≡◌, sym, ap, ap₂, ◌∙◌, subst, List, [], ◌∷◌, ◌++◌, arith, length, drop, Result}
use Rattle.tables.specs.{Document.Document, Pattern.shape_of, Refusal.{number, Check, Passes, Refuses}, declared.Pattern.Pattern}
use Rattle.tables.specs.{declared.Refusal.Refusal, declared.Refusal.TheVariants.TooLarge}
use Rattle.tables.proofs.{Outcomes.decided_both, Refusals.{refuses_not_passes, refuses_unique, decided_unique}}
use Rattle.packets.specs.{PatternPacket.pattern_checks, DocumentPacket.document_rules}
use Rattle.placing.specs.Answer.{Answer, Started, In, Lists}
use Rattle.placing.proofs.Listing.{lists_unique}
use Rattle.rewriting.specs.Rewriting.{rewriting_checks}
use Rattle.rewriting.proofs.Rewritten.{candidate_unique}
use Rattle.asking.specs.Text.{rewriting_word, view_word, query_word, document_word, line, refused_line}
use Rattle.asking.specs.{Parts.{document_part, view_part, query_part}, Replies.{ThirdLine, handed, none, refused, Answered}}
use Rattle.asking.specs.Replies.{document_in, query_in, view_in, Replies, document, view, query, extra, answered, Printed, ReplyOf}

-- one third line fits
third_unique : (d : Document) (Q U : Pattern) (starts s t : List ℕ) → ThirdLine d Q U starts s → ThirdLine d Q U starts t → s ≡ t
third_unique d Q U starts s t (handed E xs h l e) (handed F ys k m f) =
    let c : E ≡ F = candidate_unique h.1.0 k.1.0 in
    e
    ∙ ap (line rewriting_word) (lists_unique (Started (In starts) (shape_of E) d) xs ys l
    (subst (λ G. Lists (Started (In starts) (shape_of G) d) ys) (sym c) m))
    ∙ sym f
third_unique d Q U starts s t (handed E xs h l e) (none k f) = absurd (k.1 E h.1.0 h.1.1)
third_unique d Q U starts s t (handed E xs h l e) (refused k f) = absurd (refuses_not_passes (rewriting_checks Q U) TooLarge k.0 h.0)
third_unique d Q U starts s t (none h e) (handed F ys k m f) = absurd (h.1 F k.1.0 k.1.1)
third_unique d Q U starts s t (none h e) (none k f) = e ∙ sym f
third_unique d Q U starts s t (none h e) (refused k f) = absurd (refuses_not_passes (rewriting_checks Q U) TooLarge k.0 h.0)
third_unique d Q U starts s t (refused h e) (handed F ys k m f) = absurd (refuses_not_passes (rewriting_checks Q U) TooLarge h.0 k.0)
third_unique d Q U starts s t (refused h e) (none k f) = absurd (refuses_not_passes (rewriting_checks Q U) TooLarge h.0 k.0)
third_unique d Q U starts s t (refused h e) (refused k f) = e ∙ sym f

-- one text of three lines fits
answered_unique : (d : Document) (Q U : Pattern) (s t : List ℕ) → Answered d Q U s → Answered d Q U t → s ≡ t
answered_unique d Q U s t a b =
    let v : a.view_answers ≡ b.view_answers = lists_unique (Answer (shape_of U) d) a.view_answers b.view_answers a.views b.views in
    let q : a.query_answers ≡ b.query_answers = lists_unique (Answer (shape_of Q) d) a.query_answers b.query_answers a.queries b.queries in
    let r = subst (λ xs. ThirdLine d Q U xs b.third) (sym v) b.rewritten in
    a.is
    ∙ ap₂ (λ x y. x ++ y) (ap₂ (λ x y. line view_word x ++ line query_word y) v q) (third_unique d Q U a.view_answers a.third b.third a.rewritten r)
    ∙ sym b.is

-- one line of a refusal fits
line_unique : (cs : List Check) (w : List ℕ) (r q : Refusal) (s t : List ℕ) → Refuses cs r → Refuses cs q → s ≡ refused_line (number r) w → t ≡ refused_line
    (number q) w → s ≡ t
line_unique cs w r q s t h k e f = e ∙ ap (λ z. refused_line (number z) w) (refuses_unique cs r q h k) ∙ sym f

module _ (bs : List ℕ) where
  -- a packet that is refused is not right
  no_document : {X : Type 0} (r : Refusal) → Refuses (document_rules (document_part bs)) r → Passes (document_rules (document_part bs)) → X
  no_document r h p = absurd (refuses_not_passes (document_rules (document_part bs)) r h p)

  -- nor the view packet
  no_view : {X : Type 0} (r : Refusal) → Refuses (pattern_checks (view_part bs)) r → Passes (pattern_checks (view_part bs)) → X
  no_view r h p = absurd (refuses_not_passes (pattern_checks (view_part bs)) r h p)

  -- nor the query packet
  no_query : {X : Type 0} (r : Refusal) → Refuses (pattern_checks (query_part bs)) r → Passes (pattern_checks (query_part bs)) → X
  no_query r h p = absurd (refuses_not_passes (pattern_checks (query_part bs)) r h p)

  -- one text fits an input
  pub replies_unique : (s t : List ℕ) → Replies bs s → Replies bs t → s ≡ t
  replies_unique s t (document r h e) (document q k f) = line_unique (document_rules (document_part bs)) document_word r q s t h k e f
  replies_unique s t (document r h e) (view q p k f) = no_document r h p
  replies_unique s t (document r h e) (query q p k f) = no_document r h p.0
  replies_unique s t (document r h e) (extra p l f) = no_document r h p.0.0
  replies_unique s t (document r h e) (answered p l f) = no_document r h p.0.0
  replies_unique s t (view r p h e) (document q k f) = no_document q k p
  replies_unique s t (view r p h e) (view q u k f) = line_unique (pattern_checks (view_part bs)) view_word r q s t h k e f
  replies_unique s t (view r p h e) (query q u k f) = no_view r h u.1
  replies_unique s t (view r p h e) (extra u l f) = no_view r h u.0.1
  replies_unique s t (view r p h e) (answered u l f) = no_view r h u.0.1
  replies_unique s t (query r p h e) (document q k f) = no_document q k p.0
  replies_unique s t (query r p h e) (view q u k f) = no_view q k p.1
  replies_unique s t (query r p h e) (query q u k f) = line_unique (pattern_checks (query_part bs)) query_word r q s t h k e f
  replies_unique s t (query r p h e) (extra u l f) = no_query r h u.1
  replies_unique s t (query r p h e) (answered u l f) = no_query r h u.1
  replies_unique s t (extra p l e) (document q k f) = no_document q k p.0.0
  replies_unique s t (extra p l e) (view q u k f) = no_view q k p.0.1
  replies_unique s t (extra p l e) (query q u k f) = no_query q k p.1
  replies_unique s t (extra p l e) (extra u m f) = e ∙ sym f
  replies_unique s t (extra p l e) (answered u m f) = absurd (omega arith)
  replies_unique s t (answered p l e) (document q k f) = no_document q k p.0.0
  replies_unique s t (answered p l e) (view q u k f) = no_view q k p.0.1
  replies_unique s t (answered p l e) (query q u k f) = no_query q k p.1
  replies_unique s t (answered p l e) (extra u m f) = absurd (omega arith)
  replies_unique s t (answered p l e) (answered u m f) = answered_unique (document_in bs) (query_in bs) (view_in bs) s t e f

  -- one count
  printed_count : (before : List ℕ) (c e : ℕ) (a b : List ℕ) → Printed bs before c a → Printed bs before e b → c ≡ e
  printed_count before c e a b h k = h.count ∙ ap length (replies_unique h.text k.text h.replies k.replies) ∙ sym k.count

  -- one buffer
  printed_buffer : (before : List ℕ) (c e : ℕ) (a b : List ℕ) → Printed bs before c a → Printed bs before e b → a ≡ b
  printed_buffer before c e a b h k =
      h.written ∙ ap₂ (λ x n. x ++ drop n before) (replies_unique h.text k.text h.replies k.replies) (printed_count before c e a b h k) ∙ sym
      k.written

  -- one answer and one buffer fit the call
  pub reply_unique : (before : List ℕ) (r q : Result ℕ Refusal) (a b : List ℕ) → ReplyOf bs before r a → ReplyOf bs before q b → (r ≡ q) × (a ≡ b)
  reply_unique before r q a b h k =
      let cs : List Check = record { asks = 32768 ≤ length before; gives = 5 } ∷ [] in (
        decided_unique cs r q (λ c. Printed bs before c a) (a ≡ before) (λ c. Printed bs before c b) (b ≡ before)
            (λ c e x y. printed_count before c e a b x y) h k,
        decided_both cs r q (λ c e x y. printed_buffer before c e a b x y) (λ x y. x ∙ sym y) h k,
      )
