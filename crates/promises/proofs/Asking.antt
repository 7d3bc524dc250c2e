-- What `ask` prints for a rewriting: whenever the third line is a list, it lists the nodes of the second line. Assumes nothing.
use Rattle.tables.proofs.Kit.{ℕ, ◌≡◌, sym, ap, ◌∙◌, ◌⊎◌, inl, inr, List, ◌++◌, append_assoc, arith, get_or}
use Rattle.tables.specs.{Checks.document_right, Document.{Document, ValidDocument}, Pattern.shape_of, declared.Pattern.Pattern}
use Rattle.tables.proofs.Outcomes.{passes_rest}
use Rattle.packets.specs.Header.{head_checks}
use Rattle.placing.specs.Answer.{Answer, Lists}
use Rattle.placing.proofs.Listing.{lists_unique, lists_iff}
use Rattle.asking.specs.{Text.{view_word, query_word, rewriting_word, line, none_line, refused_line}, Parts.document_part}
use Rattle.asking.specs.Replies.{ThirdLine, handed, none, refused, document_in, Replies, document, view, query, extra, answered}
use Rattle.promises.proofs.{Joining.started_by, Lines.{line_then, line_unique, line_not_none, line_not_refused}, Rewriting.serves_gives}

-- the third line is the list of the query's answers, or none, or the refusal
pub third_is : (d : Document) (Q U : Pattern) (starts answers text : List ℕ) → ValidDocument d → Lists (Answer (shape_of U) d) starts → Lists
    (Answer (shape_of Q) d) answers → ThirdLine d Q U starts text
    → (text ≡ line rewriting_word answers) ⊎ (text ≡ none_line) ⊎ (text ≡ refused_line 8 rewriting_word)
third_is d Q U starts answers text v s l (handed E xs h m e) =
    let g = (serves_gives Q U E).0 h.1.1 in
    let found = lists_iff (lists_iff m (started_by (shape_of E) d (Answer (shape_of U) d) starts s)) (g.answers d v) in
    inl (e ∙ ap (line rewriting_word) (lists_unique (Answer (shape_of Q) d) xs answers found l))
third_is d Q U starts answers text v s l (none h e) = inr (inl e)
third_is d Q U starts answers text v s l (refused h e) = inr (inr e)

-- a text that begins with the line of the view is no refusal
not_refused : {X : Type 0} (vs qs r w text : List ℕ) (k : ℕ) → text ≡ refused_line k w → text ≡ line view_word vs ++ qs ++ r → X
unfolding line refused_line
not_refused vs qs r w text k e f = let z : ◌≡◌ {A = ℕ} 114 118 = ap (λ l. get_or l 0 0) (sym e ∙ f) in absurd (omega arith)

-- whenever `ask` prints a line of the view, one of the query and a list for the rewriting, the third lists the nodes of the second
pub third_lists_second : (bs text : List ℕ) → Replies bs text → (vs qs xs : List ℕ)
    → text ≡ line view_word vs ++ line query_word qs ++ line rewriting_word xs → xs ≡ qs
third_lists_second bs text (document r h e) vs qs xs t = not_refused vs _ _ _ text _ e t
third_lists_second bs text (view r p h e) vs qs xs t = not_refused vs _ _ _ text _ e t
third_lists_second bs text (query r p h e) vs qs xs t = not_refused vs _ _ _ text _ e t
third_lists_second bs text (extra p l e) vs qs xs t = not_refused vs _ _ _ text _ e t
third_lists_second bs text (answered p l a) vs qs xs t =
    let v : ValidDocument (document_in bs) = (passes_rest (head_checks (document_part bs) 0 2048) (document_right (document_in bs)) p.0.0).0 in
    let parts = line_then view_word a.view_answers vs (line query_word a.query_answers ++ a.third) (line query_word qs ++ line rewriting_word xs)
    (sym (append_assoc (line view_word a.view_answers) (line query_word a.query_answers) a.third) ∙ sym a.is ∙ t
    ∙ append_assoc (line view_word vs) (line query_word qs) (line rewriting_word xs)) in
    let rest = line_then query_word a.query_answers qs a.third (line rewriting_word xs) parts.1 in
    go rest.1 rest.0 (third_is _ _ _ a.view_answers a.query_answers a.third v a.views a.queries a.rewritten)
  where
    go : {third answers : List ℕ} → third ≡ line rewriting_word xs → answers ≡ qs
        → (third ≡ line rewriting_word answers) ⊎ (third ≡ none_line) ⊎ (third ≡ refused_line 8 rewriting_word) → xs ≡ qs
    go {answers} e f (inl g) = line_unique rewriting_word xs answers (sym e ∙ g) ∙ f
    go e f (inr (inl g)) = absurd (line_not_none xs (sym e ∙ g))
    go e f (inr (inr g)) = absurd (line_not_refused xs rewriting_word 8 (sym e ∙ g))
