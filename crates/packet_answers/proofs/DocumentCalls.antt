-- The calls on packets of documents, from the contracts of the calls that they make. Assumes nothing.
use Rattle.tables.proofs.Kit.{ℕ, ◌*◌, ◌≤◌, ◌≡◌, refl, sym, ap, ◌∙◌, subst, subst₂, List, ◌++◌}
use Rattle.tables.proofs.Kit.{arith, length, take, drop, replicate, take_at, Result, Ok}
use Rattle.tables.specs.{Document.{Document, node_count, of_lists}, Pattern.{Shape, shape_of, ValidShape}}
use Rattle.tables.specs.declared.{Refusal.Refusal, Lists.Lists as Lent, Pattern.Pattern}
use Rattle.halves.specs.Bytes.{packed}
use Rattle.packets.specs.{PatternPacket.{packet_pattern, pattern_checks}, DocumentPacket.{packet_document, document_rules}, inner.Putting.Puts}
use Rattle.placing.specs.Answer.{Begins, Started, Lists}
use Rattle.answers.specs.Answers.{Found, FindsAnswers}
use Rattle.packet_answers.specs.{Documents.{AnswersPut, AnswersPackets}, inner.Reading.BothRead}
use Rattle.placing.proofs.Listing.{answers_few}
use Rattle.packets.proofs.Putting.{puts_rest}
use Rattle.packet_answers.proofs.ReadingCalls.{both_nodes, both_passes}

-- the front of the answer list is the answers
module _ {A : Shape} {d : Document} {First : ℕ → Type 0} {list₁ work₁ list work : List ℕ} {c : ℕ} (f : Found A d First list₁ work₁ c list work) where
  front : take c list ≡ f.answers
  front = ap (take c) f.written ∙ take_at f.answers (drop c list₁) c (sym f.count)

  -- they are no more than the nodes
  pub found_few : ValidShape A → length (take c list) ≤ node_count d
  found_few v = omega (arith, ap length front, answers_few First A d f.answers v.output f.lists)

  -- as bytes
  pub answered : (room₀ room : List ℕ) → room ≡ packed (take c list) ++ drop (2 * length (take c list)) room₀
      → AnswersPut First A d room₀ (length (take c list)) room
  answered room₀ room e = record { answers = take c list; lists = subst (Lists (Started First A d)) (sym front) f.lists; count = refl; written = e }

-- the lists of the calls' own, as they are at first
abbrev pub list₀ : List ℕ
list₀ = replicate 2048 0

abbrev pub work₀ : List ℕ
work₀ = replicate 4096 0

-- both packets are read, the answers found and put
pub answers_put : {ds ps room₀ room : List ℕ} {lists : Lent} {p : Pattern} → BothRead ds ps lists p → (list work : List ℕ) (c : ℕ)
    → FindsAnswers p (of_lists lists) list₀ work₀ (Ok c) list work → (b : Result ℕ Refusal)
    → Puts (2 * length lists.parents.now) (packed (take c list)) (2 * length (take c list)) (length (take c list)) room₀ b room
    → AnswersPackets ds ps room₀ b room
answers_put {ds} {ps} {room₀} {room} t list work c h b z =
    let A = shape_of (packet_pattern ps) in
    let f = subst₂ (λ q d. FindsAnswers q d list₀ work₀ (Ok c) list work) t.pattern_read t.document_read h in
    record {
      says = puts_rest (document_rules ds ++ pattern_checks ps) b (λ c. AnswersPut (Begins A) A (packet_document ds) room₀ c room) (both_passes t f.0.1.0)
          (answered f.1 room₀ room)
          (subst (λ m. Puts (2 * m) (packed (take c list)) (2 * length (take c list)) (length (take c list)) room₀ b room) (both_nodes t) z);
    }
