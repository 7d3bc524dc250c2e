-- No second number and no second content of the room or of a list fits the statement of an entry. Assumes nothing.
use Rattle.tables.proofs.Kit.{Result, ℕ, ◌≡◌, sym, ap, ◌∙◌, List, ℤ}
use Rattle.tables.specs.{Document.Document, declared.Refusal.Refusal}
use Rattle.packet_answers.specs.Documents.{AnswersPackets, StartsPackets}
use Rattle.packet_answers.proofs.Unique.{answers_packets_unique, starts_packets_unique}
use Rattle.packet_lists.specs.Lists.{ReadsInto, ListAnswers, ListStarted}
use Rattle.packet_lists.proofs.Unique.{reads_into_unique, list_answers_unique, list_started_unique}
use Rattle.packet_patterns.specs.{Contained.ContainsPackets, Patterns.{JoinsPackets, RewritesPackets, CopiesPacket}}
use Rattle.packet_patterns.proofs.Unique.{joins_packets_unique, rewrites_packets_unique, copies_packet_unique, contains_packets_unique}
use Rattle.station.specs.Code.{code_of, Coded}

-- one answer and one Z: one number and one Z
coded_unique : {Z : Type 0} (P Q : Result ℕ Refusal → Type 0) (r q : ℤ) → ((a b : Result ℕ Refusal) → P a → Q b → (a ≡ b) × Z) → Coded P r → Coded Q q →
    (r ≡ q) × Z
coded_unique P Q r q u h k = let s = u h.answer k.answer h.holds k.holds in (h.code ∙ ap code_of s.0 ∙ sym k.code, s.1)

-- the entries with a room
module _ (r q : ℤ) (room₀ room room' : List ℕ) where
  -- two statements of one call, with the number and the room of each
  abbrev One : (Result ℕ Refusal → List ℕ → Type 0) → Type 0
  One X = Coded (λ a. X a room) r → Coded (λ a. X a room') q → (r ≡ q) × (room ≡ room')

  pub answers_one : (ds ps : List ℕ) → One (AnswersPackets ds ps room₀)
  answers_one ds ps = coded_unique _ _ r q (λ a b x y. answers_packets_unique ds ps room₀ a b room room' x y)

  pub started_one : (ds ps ss : List ℕ) → One (StartsPackets ds ps ss room₀)
  started_one ds ps ss = coded_unique _ _ r q (λ a b x y. starts_packets_unique ds ps ss room₀ a b room room' x y)

  pub contained_one : (xs ys : List ℕ) → One (ContainsPackets xs ys room₀)
  contained_one xs ys = coded_unique _ _ r q (λ a b x y. contains_packets_unique xs ys room₀ a b room room' x y)

  pub join_one : (us es : List ℕ) → One (JoinsPackets us es room₀)
  join_one us es = coded_unique _ _ r q (λ a b x y. joins_packets_unique us es room₀ a b room room' x y)

  pub rewrite_one : (qs us : List ℕ) → One (RewritesPackets qs us room₀)
  rewrite_one qs us = coded_unique _ _ r q (λ a b x y. rewrites_packets_unique qs us room₀ a b room room' x y)

  pub copy_pattern_one : (bs : List ℕ) → One (CopiesPacket bs room₀)
  copy_pattern_one bs = coded_unique _ _ r q (λ a b x y. copies_packet_unique bs room₀ a b room room' x y)

-- the entries with two lists
module _ (r q : ℤ) (xs₀ ys₀ xs ys xs' ys' : List ℕ) where
  -- the same with the number and both lists of each
  abbrev OneOfLists : (Result ℕ Refusal → List ℕ → List ℕ → Type 0) → Type 0
  OneOfLists X = Coded (λ a. X a xs ys) r → Coded (λ a. X a xs' ys') q → (r ≡ q) × ((xs ≡ xs') × (ys ≡ ys'))

  pub read_document_one : (bs : List ℕ) → OneOfLists (ReadsInto bs xs₀ ys₀)
  read_document_one bs = coded_unique _ _ r q (λ a b x y. let s = reads_into_unique bs xs₀ ys₀ a b xs xs' ys ys' x y in (s.0, (s.1, s.2)))

  pub list_answers_one : (d : Document) (ps : List ℕ) → OneOfLists (ListAnswers d ps xs₀ ys₀)
  list_answers_one d ps = coded_unique _ _ r q (λ a b x y. let s = list_answers_unique d ps xs₀ ys₀ a b xs ys xs' ys' x y in (s.0, (s.1, s.2)))

  pub list_started_one : (d : Document) (ps starts : List ℕ) → OneOfLists (ListStarted d ps starts xs₀ ys₀)
  list_started_one d ps starts = coded_unique _ _ r q (λ a b x y. let s = list_started_unique d ps starts xs₀ ys₀ a b xs ys xs' ys' x y in (s.0, (s.1, s.2)))
