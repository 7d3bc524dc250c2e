-- The started form on packets, from the contracts of the calls that it makes. Assumes nothing.
use Rattle.tables.proofs.Kit.{ℕ, ◌+◌, ◌*◌, ◌/◌, ◌%◌, ◌<◌, ◌≡◌, refl, ap, ◌∙◌, subst, subst₂}
use Rattle.tables.proofs.Kit.{◌⊎◌, inl, ⊎_elim, List, ◌++◌, arith, length, take, length-replicate, Result, Ok, Err}
use Rattle.tables.specs.{Column.column, Document.{node_count, of_lists}, Pattern.shape_of, Refusal.Check}
use Rattle.tables.specs.declared.{Refusal.Refusal, Refusal.TheVariants.Start, Lists.Lists, Pattern.Pattern}
use Rattle.tables.proofs.{Columns.{column_length, column_ext}, Outcomes.{refuses_rest, passes_both}}
use Rattle.halves.specs.Bytes.{half, packed, unpacked}
use Rattle.packets.specs.{PatternPacket.{packet_pattern, pattern_checks}, DocumentPacket.{packet_document, document_rules}, inner.Putting.Puts}
use Rattle.placing.specs.Answer.{In, StartList}
use Rattle.answers.specs.Answers.{HasRoom, FindsStarted}
use Rattle.packet_answers.specs.{Documents.{AnswersPut, nodes_room, start_check, StartsPackets}, inner.Reading.{AfterRules, BothRead}}
use Rattle.placing.proofs.Listing.{ascending_few}
use Rattle.packets.proofs.Putting.{puts_rest}
use Rattle.packet_answers.proofs.ReadingCalls.{after_rules_lem, both_nodes, both_few, pattern_valid, both_passes, both_bad}
use Rattle.packet_answers.proofs.DocumentCalls.{list₀, work₀, answered}

-- the numbers read from the start bytes are the start nodes
pub starts_are : (ss : List ℕ) {xs : List ℕ} (m : ℕ) → xs ≡ column (λ i. half ss (0 + 2 * i)) m → m ≡ length ss / 2 → xs ≡ unpacked ss
unfolding unpacked
starts_are ss m g l =
    g ∙ column_ext (λ i. half ss (0 + 2 * i)) (λ i. half ss (2 * i)) m (λ i l. ap (half ss) {x = 0 + 2 * i} {y = 2 * i} (omega arith))
    ∙ ap (column (λ i. half ss (2 * i))) l

-- what is known where both packets were read
module _ {ds ps : List ℕ} {lists : Lists} {p : Pattern} (t : BothRead ds ps lists p) (ss : List ℕ) where
  abbrev front : List Check
  front = document_rules ds ++ pattern_checks ps

  nodes : length lists.parents.now ≡ node_count (packet_document ds)
  nodes = ap node_count t.document_read

  -- an odd number of bytes, or more start nodes than nodes: the document's rules are told first
  pub starts_none : {room : List ℕ} (q : Refusal) → ((length ss % 2 ≡ 0 → ⊥) ⊎ (length lists.parents.now < length ss / 2))
      → AfterRules (of_lists lists) Start q → StartsPackets ds ps ss room (Err q) room
  unfolding unpacked
  starts_none {room} q o w =
      let rest : List Check = start_check ds ps ss ++ nodes_room ds (length room) in
      let f : ℕ → ℕ = λ i. half ss (2 * i) in
      let none : (length ss % 2 ≡ 0) × StartList (packet_document ds) (unpacked ss) → ⊥ = λ z. ⊎_elim (λ o. o z.0) (λ l. omega (
        arith,
        nodes,
        column_length f (length ss / 2),
        ascending_few (column f (length ss / 2)) (node_count (packet_document ds)) z.1.ascending z.1.nodes,
      )) o in
      record {
        says = (
          after_rules_lem ds (pattern_checks ps ++ rest) Start q t.header
              (refuses_rest (pattern_checks ps) rest Start t.checked (inl (λ z. none (z.1, z.2), refl)))
              (subst (λ d. AfterRules d Start q) t.document_read w),
          refl,
        );
      }

  -- the call's own lists have room for the document
  pub has_room : HasRoom (packet_document ds) (length list₀) (length work₀)
  has_room = (omega (arith, both_few t, nodes, length-replicate {A = ℕ} 2048 0), omega (arith, both_few t, nodes, length-replicate {A = ℕ} 4096 0))

  module _ (xs list work : List ℕ) (g : xs ≡ unpacked ss) (even : length ss % 2 ≡ 0) where
    -- the call in terms of the packets
    here : (a : Result ℕ Refusal) → FindsStarted p (of_lists lists) xs list₀ work₀ a list work
        → FindsStarted (packet_pattern ps) (packet_document ds) (unpacked ss) list₀ work₀ a list work
    here a h = subst (λ ys. FindsStarted (packet_pattern ps) (packet_document ds) ys list₀ work₀ a list work) g
        (subst₂ (λ q d. FindsStarted q d xs list₀ work₀ a list work) t.pattern_read t.document_read h)

    -- it refuses for the document's rules or the start
    pub starts_refused : (room : List ℕ) (r : Refusal) → FindsStarted p (of_lists lists) xs list₀ work₀ (Err r) list work
        → StartsPackets ds ps ss room (Err r) room
    starts_refused room r h =
        let rest : List Check = start_check ds ps ss ++ nodes_room ds (length room) in
        record {
          says = (
            ⊎_elim (λ w. absurd (w.0 (pattern_valid t))) (λ w. ⊎_elim (λ w. both_bad t (pattern_checks ps ++ rest) r w.0 w.1)
                (λ v. refuses_rest front rest r (both_passes t v.0)
                (⊎_elim (λ w. inl (λ z. w.0 (z.0, z.2), w.1)) (λ w. absurd (⊎_elim (λ w. w.0 has_room) (λ w. w.1) w.1)) v.1)) w.1)
                (here (Err r) h).0,
            refl,
          );
        }

    pub starts_put : {room₀ room : List ℕ} (c : ℕ) → FindsStarted p (of_lists lists) xs list₀ work₀ (Ok c) list work → (b : Result ℕ Refusal)
        → Puts (2 * length lists.parents.now) (packed (take c list)) (2 * length (take c list)) (length (take c list)) room₀ b room
        → StartsPackets ds ps ss room₀ b room
    starts_put {room₀} {room} c h b z =
        let f = here (Ok c) h in let s = f.0.1.1.0 in
        record {
          says = puts_rest (front ++ start_check ds ps ss) b
              (λ c. AnswersPut (In (unpacked ss)) (shape_of (packet_pattern ps)) (packet_document ds) room₀ c room)
              (passes_both front (start_check ds ps ss) (both_passes t f.0.1.0) ((s.0, even, s.1), tt)) (answered f.1 room₀ room)
              (subst (λ m. Puts (2 * m) (packed (take c list)) (2 * length (take c list)) (length (take c list)) room₀ b room) (both_nodes t) z);
        }
