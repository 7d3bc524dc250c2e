-- What `ask` prints for each input (docs/RULES.md, "The program ask").
--   ThirdLine   the line of the rewriting
--   Answered    the three lines of an input whose packets are right
--   Replies     the text for an input
--   ReplyOf     what the call answers and leaves in the buffer
-- Assumes nothing.
use Rattle.std.specs.Prelude.{ℕ, ◌≤◌, ◌<◌, ◌≡◌, List, [], ◌∷◌, ◌++◌, length, drop, Result, Ok, Err, Some, None}
use Rattle.tables.specs.Document.{Document}
use Rattle.tables.specs.Pattern.{shape_of}
use Rattle.tables.specs.Refusal.{number, Passes, Refuses, Decided}
use Rattle.tables.specs.declared.Pattern.{Pattern}
use Rattle.tables.specs.declared.Refusal.{Refusal}
use Rattle.tables.specs.declared.Refusal.TheVariants.{TooLarge}
use Rattle.packets.specs.PatternPacket.{packet_pattern, pattern_checks}
use Rattle.packets.specs.DocumentPacket.{packet_document, document_rules}
use Rattle.placing.specs.Answer.{Answer, Started, In, Lists}
use Rattle.rewriting.specs.Rewriting.{Rewrites}
use Rattle.asking.specs.Text.{view_word, query_word, rewriting_word, document_word, input_word, line, refused_line, none_line}
use Rattle.asking.specs.Parts.{document_part, view_part, query_part, parts_end}

-- the third line, for the query Q, the view U and the view's answers: the compensation started at them, or none, or the refusal of more than 32 steps
pub data ThirdLine (d : Document) (Q U : Pattern) (starts text : List ℕ) : Type 0 where
  -- a compensation is handed over, and started at the view's answers
  handed : (E : Pattern) (xs : List ℕ) → Rewrites Q U (Ok (Some E)) → Lists (Started (In starts) (shape_of E) d) xs → text ≡ line rewriting_word xs
      → ThirdLine d Q U starts text
  -- there is no rewriting
  none : Rewrites Q U (Ok None) → text ≡ none_line → ThirdLine d Q U starts text
  -- the query or the view has more than 32 steps
  refused : Rewrites Q U (Err TooLarge) → text ≡ refused_line 8 rewriting_word → ThirdLine d Q U starts text

-- the answers of the view, those of the query, and the third line
pub record Answered (d : Document) (Q U : Pattern) (text : List ℕ) : Type 0 where
  pub view_answers : List ℕ
  pub query_answers : List ℕ
  pub third : List ℕ
  pub views : Lists (Answer (shape_of U) d) view_answers
  pub queries : Lists (Answer (shape_of Q) d) query_answers
  pub rewritten : ThirdLine d Q U view_answers third
  pub is : text ≡ line view_word view_answers ++ line query_word query_answers ++ third

-- the document of an input
abbrev pub document_in : List ℕ → Document
document_in bs = packet_document (document_part bs)

-- the view of an input
abbrev pub view_in : List ℕ → Pattern
view_in bs = packet_pattern (view_part bs)

-- the query of an input
abbrev pub query_in : List ℕ → Pattern
query_in bs = packet_pattern (query_part bs)

-- the document packet and the view packet are right
abbrev pub ViewRight : List ℕ → Type 0
ViewRight bs = Passes (document_rules (document_part bs)) × Passes (pattern_checks (view_part bs))

-- all three packets are right
abbrev pub AllRight : List ℕ → Type 0
AllRight bs = ViewRight bs × Passes (pattern_checks (query_part bs))

-- the text for an input: the line of the first packet that is refused; that of bytes past the query; or three lines
pub data Replies (bs text : List ℕ) : Type 0 where
  -- the document packet is refused
  document : (r : Refusal) → Refuses (document_rules (document_part bs)) r → text ≡ refused_line (number r) document_word → Replies bs text
  -- the document packet is right, the view packet is refused
  view : (r : Refusal) → Passes (document_rules (document_part bs)) → Refuses (pattern_checks (view_part bs)) r → text ≡ refused_line (number r) view_word
      → Replies bs text
  -- the query packet is refused
  query : (r : Refusal) → ViewRight bs → Refuses (pattern_checks (query_part bs)) r → text ≡ refused_line (number r) query_word → Replies bs text
  -- all three are right, and bytes stand past them
  extra : AllRight bs → parts_end bs < length bs → text ≡ refused_line 2 input_word → Replies bs text
  -- all three are right, and nothing follows
  answered : AllRight bs → length bs ≤ parts_end bs → Answered (document_in bs) (query_in bs) (view_in bs) text → Replies bs text

-- the text stands at the front of the buffer, and c counts its bytes
pub record Printed (bs before : List ℕ) (c : ℕ) (after : List ℕ) : Type 0 where
  pub text : List ℕ
  pub replies : Replies bs text
  pub count : c ≡ length text
  pub written : after ≡ text ++ drop c before

-- a buffer of at least 32,768 bytes gets the text; a shorter one is refused and stays as it was
abbrev pub ReplyOf : List ℕ → List ℕ → Result ℕ Refusal → List ℕ → Type 0
ReplyOf bs before r after =
    Decided (record { asks = 32768 ≤ length before; gives = 5 } ∷ []) r (λ c. Printed bs before c after) (after ≡ before)
