-- What the sign of an entry's number tells C: 0 or more is an answer and no refusal, and every check holds; minus k is the refusal with number k, by the first
-- check that fails, and everything that was lent is as it was. Assumes nothing.
use Rattle.tables.proofs.Kit.{Result, Ok, Err, ℕ, suc, ◌≡◌, refl, sym, ap, ◌∙◌, subst, List, ◌++◌, ℤ, negsuc, nat_abs, pos-ne-negsuc, length, drop}
use Rattle.tables.specs.{Checks.room_for, Document.Document, Pattern.shape_of, Refusal.{number, Check, Passes, Decided}, declared.Refusal.Refusal}
use Rattle.tables.specs.declared.Refusal.TheVariants.{Version, Length, BadPattern, BadDocument, Room, Start, OtherLabel, TooLarge, NoLabel}
use Rattle.halves.specs.Bytes.{unpacked}
use Rattle.packets.specs.{PatternPacket.{packet_pattern, pattern_checks, PacketPut}, DocumentPacket.{nodes_in, packet_document, document_checks}}
use Rattle.placing.specs.Answer.{Begins, In}
use Rattle.answers.specs.Answers.{Found, answer_checks, started_checks}
use Rattle.joining.specs.Join.{join_of}
use Rattle.packet_answers.specs.Documents.{AnswersPut, packet_checks, AnswersPackets, start_checks, StartsPackets}
use Rattle.packet_lists.specs.Lists.{ReadsInto, ListAnswers, ListStarted}
use Rattle.packet_patterns.specs.Contained.{Shown, contains_checks, ContainsPackets}
use Rattle.packet_patterns.specs.Patterns.{joins_checks, JoinsPackets, rewrites_checks, Rewritten, RewritesPackets, CopiesPacket}
use Rattle.station.specs.Code.{code_of, Coded, Told}

-- no refusal has the number 0
refusal_code : (q : Refusal) → (k : ℕ) × (number q ≡ suc k) × (code_of (Err q) ≡ negsuc k)
refusal_code Version = (0, refl, refl)
refusal_code Length = (1, refl, refl)
refusal_code BadPattern = (2, refl, refl)
refusal_code BadDocument = (3, refl, refl)
refusal_code Room = (4, refl, refl)
refusal_code Start = (5, refl, refl)
refusal_code OtherLabel = (6, refl, refl)
refusal_code TooLarge = (7, refl, refl)
refusal_code NoLabel = (8, refl, refl)

module _ (cs : List Check) (X : ℕ → Type 0) (Kept : Type 0) (r : ℤ) where
  by_answer : (a : Result ℕ Refusal) → Decided cs a X Kept → r ≡ code_of a → Told cs X Kept r
  by_answer (Ok c) w e = record {
    answered = λ n g. subst (λ (m : ℕ). Passes cs × X m) (ap nat_abs (sym e ∙ g)) w;
    refused = λ k g. absurd (pos-ne-negsuc c k (sym e ∙ g));
  }
  by_answer (Err q) w e =
      let z = refusal_code q in
      record {
        answered = λ n g. absurd (pos-ne-negsuc n z.0 (sym g ∙ e ∙ z.2));
        refused = λ k g. (q, z.1 ∙ ap nat_abs (sym z.2 ∙ sym e ∙ g), w.0, w.1);
      }

  -- a statement about an answer by checks, handed to C
  told : (P : Result ℕ Refusal → Type 0) → ((a : Result ℕ Refusal) → P a → Decided cs a X Kept) → Coded P r → Told cs X Kept r
  told P f h = by_answer h.answer (f h.answer h.holds) h.code

-- the entries with a room
module _ (r : ℤ) (room₀ room : List ℕ) where
  pub answers_told : (ds ps : List ℕ) → Coded (λ a. AnswersPackets ds ps room₀ a room) r → Told (packet_checks ds ps (length room₀))
      (λ c. AnswersPut (Begins (shape_of (packet_pattern ps))) (shape_of (packet_pattern ps)) (packet_document ds) room₀ c room) (room ≡ room₀) r
  answers_told ds ps = told _ _ _ r _ (λ a h. h.says)

  pub started_told : (ds ps ss : List ℕ) → Coded (λ a. StartsPackets ds ps ss room₀ a room) r → Told (start_checks ds ps ss (length room₀))
      (λ c. AnswersPut (In (unpacked ss)) (shape_of (packet_pattern ps)) (packet_document ds) room₀ c room) (room ≡ room₀) r
  started_told ds ps ss = told _ _ _ r _ (λ a h. h.says)

  pub contained_told : (xs ys : List ℕ) → Coded (λ a. ContainsPackets xs ys room₀ a room) r
      → Told (contains_checks xs ys (length room₀)) (λ c. Shown (packet_pattern xs) (packet_pattern ys) room₀ c room) (room ≡ room₀) r
  contained_told xs ys = told _ _ _ r _ (λ a h. h.says)

  pub join_told : (us es : List ℕ) → Coded (λ a. JoinsPackets us es room₀ a room) r
      → Told (joins_checks us es (length room₀)) (λ c. PacketPut (join_of (packet_pattern us) (packet_pattern es)) room₀ c room) (room ≡ room₀) r
  join_told us es = told _ _ _ r _ (λ a h. h.says)

  pub rewrite_told : (qs us : List ℕ) → Coded (λ a. RewritesPackets qs us room₀ a room) r
      → Told (rewrites_checks qs us (length room₀)) (λ c. Rewritten (packet_pattern qs) (packet_pattern us) room₀ c room) (room ≡ room₀) r
  rewrite_told qs us = told _ _ _ r _ (λ a h. h.says)

  pub copy_pattern_told : (bs : List ℕ) → Coded (λ a. CopiesPacket bs room₀ a room) r
      → Told (pattern_checks bs ++ room_for (length bs) (length room₀)) (λ c. (c ≡ length bs) × (room ≡ bs ++ drop c room₀)) (room ≡ room₀) r
  copy_pattern_told bs = told _ _ _ r _ (λ a h. h.says)

-- the entries with two lists
module _ (r : ℤ) (xs₀ ys₀ xs ys : List ℕ) where
  pub read_document_told : (bs : List ℕ) → Coded (λ a. ReadsInto bs xs₀ ys₀ a xs ys) r → Told (document_checks bs (length xs₀) (length ys₀))
      (λ n. (n ≡ nodes_in bs) × (xs ≡ (packet_document bs).parents ++ drop n xs₀) × (ys ≡ (packet_document bs).labels ++ drop n ys₀))
      ((xs ≡ xs₀) × (ys ≡ ys₀)) r
  read_document_told bs = told _ _ _ r _ (λ a h. h.says)

  pub list_answers_told : (d : Document) (ps : List ℕ) → Coded (λ a. ListAnswers d ps xs₀ ys₀ a xs ys) r
      → Told (pattern_checks ps ++ answer_checks (packet_pattern ps) d (length xs₀) (length ys₀))
      (λ c. Found (shape_of (packet_pattern ps)) d (Begins (shape_of (packet_pattern ps))) xs₀ ys₀ c xs ys) ((xs ≡ xs₀) × (ys ≡ ys₀)) r
  list_answers_told d ps = told _ _ _ r _ (λ a h. h.says)

  pub list_started_told : (d : Document) (ps starts : List ℕ) → Coded (λ a. ListStarted d ps starts xs₀ ys₀ a xs ys) r
      → Told (pattern_checks ps ++ started_checks (packet_pattern ps) d starts (length xs₀) (length ys₀))
      (λ c. Found (shape_of (packet_pattern ps)) d (In starts) xs₀ ys₀ c xs ys) ((xs ≡ xs₀) × (ys ≡ ys₀)) r
  list_started_told d ps starts = told _ _ _ r _ (λ a h. h.says)
