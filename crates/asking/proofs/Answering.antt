-- Laws of the reply's parts: answers are node numbers, their lines fit, and what the three lines put. Assumes nothing.
use Rattle.tables.proofs.Kit.{ℕ, ◌+◌, ◌≤◌, ◌<◌, ◌≡◌, refl, ap, subst, ⊎_elim, List, ◌++◌, Ok, Err, Some, None}
use Rattle.tables.proofs.Kit.{arith, length, get_or, drop, length-append}
use Rattle.tables.specs.{Document.{Document, node_count, ValidDocument}, Pattern.{Shape, shape_of, ValidShape, ValidPattern}, Refusal.{number, Refuses}}
use Rattle.tables.specs.{declared.Pattern.Pattern, declared.Refusal.Refusal}
use Rattle.tables.specs.declared.Refusal.TheVariants.{TooLarge}
use Rattle.tables.proofs.{Kept.{kept_pattern, kept_document}, Refusals.number_unique}
use Rattle.placing.specs.Answer.{Answer, Started, In, Lists, StartList}
use Rattle.placing.proofs.Listing.{answers_few}
use Rattle.rewriting.specs.Rewriting.{rewriting_checks, Rewrites}
use Rattle.asking.specs.Text.{line, refused_line, none_line, view_word, query_word, rewriting_word}
use Rattle.asking.specs.Replies.{ThirdLine, handed, none, refused, Answered, ReplyOf}
use Rattle.asking.specs.{inner.Writing.{Grew, Puts}, declared.text.Text.Text}
use Rattle.asking.proofs.Writing.{grew_then, line_short}

-- answers of a pattern in a document, both of which obey the rules
module _ {First : ℕ → Type 0} {A : Shape} (v : ∥ ValidShape A ∥₁) where
  -- an answer is a node of the document
  pub lists_nodes : (d : Document) (xs : List ℕ) → Lists (Started First A d) xs → (k : ℕ) → k < length xs → get_or xs k 0 < node_count d
  lists_nodes d xs h k l =
      let s = h.sound (get_or xs k 0) (record { place = k; early = l; is = refl }) in
      omega (arith, (s.sends.takes A.output (kept_pattern v).output).here, s.at)

  -- answers may start a compensation
  pub lists_start : {d : Document} (xs : List ℕ) → Lists (Started First A d) xs → StartList d xs
  lists_start {d} xs h = record { ascending = h.ascending; nodes = lists_nodes d xs h }

  -- their line is short
  pub lists_short : {d : Document} (w xs : List ℕ) → ∥ ValidDocument d ∥₁ → Lists (Started First A d) xs → length (line w xs) ≤ length w + 10247
  lists_short {d} w xs m h =
      let few = (kept_document m).few in
      line_short w xs (omega (arith, few, answers_few First A d xs (kept_pattern v).output h)) (λ k l. omega (arith, few, lists_nodes d xs h k l))

-- a compensation that is handed over obeys the rules, and its step 0 has axis child
pub handed_right : (Q U E : Pattern) → Rewrites Q U (Ok (Some E)) → ValidPattern E × (get_or E.axis 0 0 ≡ 0)
handed_right Q U E h = let j = h.1.1.joinable in (j.1.0, j.1.1.0)

-- two patterns that are right are refused by their size alone
pub refused_large : (Q U : Pattern) (r : Refusal) → ValidPattern Q → ValidPattern U → Refuses (rewriting_checks Q U) r → r ≡ TooLarge
refused_large Q U r q u h =
    number_unique r TooLarge (⊎_elim (λ w. absurd (w.0 q)) (λ w. ⊎_elim (λ x. absurd (x.0 u)) (λ x. ⊎_elim (λ y. y.1) (λ y. absurd y.1) x.1) w.1) h)

-- the third line, for each answer of the rewriting call
module _ {d : Document} {Q U : Pattern} {starts : List ℕ} {x y : Text} where
  pub third_handed : (E : Pattern) {xs : List ℕ} → Rewrites Q U (Ok (Some E)) → Lists (Started (In starts) (shape_of E) d) xs
      → Grew x (line rewriting_word xs) y → Puts (ThirdLine d Q U starts) x y
  third_handed E {xs} h l g = record { text = line rewriting_word xs; holds = handed E xs h l refl; grew = g }

  pub third_none : Rewrites Q U (Ok None) → Grew x none_line y → Puts (ThirdLine d Q U starts) x y
  third_none h g = record { text = none_line; holds = none h refl; grew = g }

  pub third_refused : (r : Refusal) → ValidPattern Q → ValidPattern U → Rewrites Q U (Err r) → Grew x (refused_line (number r) rewriting_word) y
      → Puts (ThirdLine d Q U starts) x y
  third_refused r q u h g =
      let e : r ≡ TooLarge = refused_large Q U r q u h.0 in
      record {
        text = refused_line 8 rewriting_word;
        holds = refused (subst (λ k. Rewrites Q U (Err k)) e h) refl;
        grew = subst (λ k. Grew x (refused_line (number k) rewriting_word) y) e g;
      }

-- what is counted lies within the buffer
pub reply_fits : (bs before : List ℕ) (c : ℕ) (after : List ℕ) → ReplyOf bs before (Ok c) after → c ≤ length after
reply_fits bs before c after h = omega (arith, h.1.count, ap length h.1.written, length-append h.1.text (drop c before))

-- the three lines, one after another
pub answers_put : {d : Document} {Q U : Pattern} {xs ys : List ℕ} {x y z t : Text} → x.len ≤ length x.out.now → Lists (Answer (shape_of U) d) xs
    → Lists (Answer (shape_of Q) d) ys → Grew x (line view_word xs) y → Grew y (line query_word ys) z → Puts (ThirdLine d Q U xs) z t
    → Puts (Answered d Q U) x t
answers_put {xs = xs} {ys = ys} l f g w v p = record {
  text = line view_word xs ++ line query_word ys ++ p.text;
  holds = record { view_answers = xs; query_answers = ys; third = p.text; views = f; queries = g; rewritten = p.holds; is = refl };
  grew = grew_then l (grew_then l w v) p.grew;
}
