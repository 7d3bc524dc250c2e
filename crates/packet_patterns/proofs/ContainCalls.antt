-- Containment on packets, from the contracts of the calls that it makes. Assumes nothing.
use Rattle.tables.proofs.Kit.{ℕ, ◌+◌, ◌*◌, ◌≡◌, refl, sym, ap, ap₂, ◌∙◌, subst, subst₂, ⊎_elim}
use Rattle.tables.proofs.Kit.{List, [], ◌∷◌, ◌++◌, arith, length, get_or, take, drop, replicate, length-replicate, take_at}
use Rattle.tables.proofs.Kit.{Result, Ok, Err}
use Rattle.tables.specs.{Checks.room_for, Column.{column, step_no}, Document.{Document, document_of}, Pattern.{Shape, shape_of, ValidShape}}
use Rattle.tables.specs.{Refusal.{Check, Passes, Refuses}, declared.Refusal.Refusal, declared.NodeNo.NodeNo, declared.Pattern.Pattern, declared.Refusal.Refusal}
use Rattle.tables.proofs.Outcomes.{refuses_front, refuses_rest, passes_both, last_holds}
use Rattle.halves.specs.Bytes.{high, low}
use Rattle.packets.specs.{PatternPacket.{packet_pattern, pattern_checks, ReadsTwo}, DocumentPacket.{document_packet, size_of}}
use Rattle.packets.specs.inner.Putting.{Puts}
use Rattle.packets.proofs.{Views.{TwoRight, two_of}, Putting.puts_rest}
use Rattle.containment.specs.{Containment.{AnswersContainment, DecidesContainment}, Witness.{witness_size, witness_of}}
use Rattle.containment.specs.{declared.Containment.Containment, declared.ContainmentAnswer.ContainmentAnswer}
use Rattle.containment.specs.declared.Containment.TheVariants as containment
use Rattle.containment.proofs.{Contained.{axes, witness_few}, Written.{parents_length, labels_length}}
use Rattle.packet_patterns.specs.Contained.{Shown, fresh_check, ContainsPackets}
use Rattle.packet_patterns.proofs.Shown.{mapping_bytes}

-- both lists of a witness have as many entries as it has nodes
witness_lengths : {A : Shape} → ValidShape A → (l : ℕ) → (length (witness_of A l).parents ≡ witness_size A) × (length (witness_of A l).labels ≡ witness_size A)
unfolding witness_of
witness_lengths {A} v l = (parents_length A (axes v) A.tree.size (omega arith), labels_length A l (axes v) A.tree.size (omega arith))

-- a room by its parts
told : (room₀ : List ℕ) {d e : Document} {x y m n : ℕ} → d ≡ e → x ≡ y → m ≡ n
    → document_packet d ++ (high x ∷ low x ∷ []) ++ drop (4 * m + 3 + 2) room₀ ≡ document_packet e ++ (high y ∷ low y ∷ []) ++ drop (4 * n + 3 + 2) room₀
told room₀ e f g = λ i. document_packet (e i) ++ (high (f i) ∷ low (f i) ∷ []) ++ drop (4 * g i + 3 + 2) room₀

-- two packets that are right
module _ (xs ys : List ℕ) where
  abbrev front : List Check
  front = pattern_checks xs ++ pattern_checks ys

  abbrev A : Pattern
  A = packet_pattern xs

  abbrev B : Pattern
  B = packet_pattern ys

  module _ (two : Pattern × Pattern) (s : ReadsTwo xs ys (Ok two)) (parents labels : List ℕ) where
    right : TwoRight xs ys
    right = two_of xs ys s.says.0

    -- the call in terms of the packets
    here : (f : Result ContainmentAnswer Refusal) → DecidesContainment two.0 two.1 (replicate 128 0) (replicate 128 0) f parents labels
        → DecidesContainment A B (replicate 128 0) (replicate 128 0) f parents labels
    here f h = subst₂ (λ x y. DecidesContainment x y (replicate 128 0) (replicate 128 0) f parents labels) s.says.1.0 s.says.1.1 h

    -- the call refuses for the label alone
    pub contains_refused : {room : List ℕ} (r : Refusal) → DecidesContainment two.0 two.1 (replicate 128 0) (replicate 128 0) (Err r) parents labels
        → ContainsPackets xs ys room (Err r) room
    contains_refused {room} r h =
        let w = (here (Err r) h).0 in let m = witness_few right.first.right in
        let l = length-replicate {A = ℕ} 128 0 in
        let fresh : Refuses (fresh_check A B) r =
        ⊎_elim (λ w. absurd (w.0 right.first.right)) (λ w. ⊎_elim (λ w. absurd (w.0 right.second.right))
        (λ w. last_holds (fresh_check A B) _ r (λ p. (omega (arith, m, l), omega (arith, m, l))) w.1) w.1) w in
        record {
          says = (
            refuses_rest front (fresh_check A B ++ room_for 517 (length room)) r s.says.0
                (refuses_front (fresh_check A B) (room_for 517 (length room)) r fresh),
            refl,
          );
        }

    module _ (f : ContainmentAnswer) (h : DecidesContainment two.0 two.1 (replicate 128 0) (replicate 128 0) (Ok f) parents labels) where
      -- the checks before the room pass
      passes : Passes (front ++ fresh_check A B)
      passes = passes_both front (fresh_check A B) s.says.0 ((here (Ok f) h).0.1.1.0, tt)

      -- the answer by its case
      told_by : (c : Containment) → f.answer ≡ c → AnswersContainment A B (replicate 128 0) (replicate 128 0) c f.mapping parents labels
      told_by c g = subst (λ x. AnswersContainment A B (replicate 128 0) (replicate 128 0) x f.mapping parents labels) g (here (Ok f) h).1

      -- contained: the mapping
      pub contains_within : {room₀ room : List ℕ} (r : Result ℕ Refusal) → f.answer ≡ containment.Contained
          → Puts 517 (column (λ k. (get_or f.mapping k (step_no 0)).0) 64) 64 1 room₀ r room → ContainsPackets xs ys room₀ r room
      contains_within {room₀} {room} r g z =
          let w = told_by containment.Contained g in
          record {
            says = puts_rest (front ++ fresh_check A B) r (λ c. Shown A B room₀ c room) passes
                (λ k. record {
                  contained = w.0.contained;
                  by = w.0.by;
                  least = w.0.least;
                  written = k ∙ ap (λ z. z ++ drop 64 room₀) (mapping_bytes w.0.by B.count f.mapping right.second.right.few w.0.array);
                }) z;
          }

      -- apart: the witness
      module _ (m : ℕ) (node : NodeNo) (g : f.answer ≡ containment.Apart m node) where
        apart : AnswersContainment A B (replicate 128 0) (replicate 128 0) (containment.Apart m node) f.mapping parents labels
        apart = told_by (containment.Apart m node) g

        -- the fronts of the two lists are the witness
        fronts : document_of (take m parents) (take m labels) ≡ witness_of (shape_of A) apart.0.label
        fronts =
            let w = apart.0 in let l = witness_lengths right.first.right w.label in
            ap₂ (λ x y. document_of x y)
            (ap (take m) w.parent_list ∙ take_at (witness_of (shape_of A) w.label).parents _ m (l.0 ∙ sym w.count))
            (ap (take m) w.label_list ∙ take_at (witness_of (shape_of A) w.label).labels _ m (l.1 ∙ sym w.count))

        pub contains_apart : {room₀ room : List ℕ} (r : Result ℕ Refusal)
            → Puts 517 (document_packet (document_of (take m parents) (take m labels)) ++ (high node.0 ∷ low node.0 ∷ []))
            (size_of (document_of (take m parents) (take m labels)) + 2) 0 room₀ r room → ContainsPackets xs ys room₀ r room
        contains_apart {room₀} {room} r z =
            let w = apart.0 in
            let n : length (take m parents) ≡ witness_size (shape_of A) =
            ap (λ d. length d.parents) fronts ∙ (witness_lengths right.first.right w.label).0 in
            record {
              says = puts_rest (front ++ fresh_check A B) r (λ c. Shown A B room₀ c room) passes
                  (λ k. record {
                    not_contained = w.not_contained;
                    label = w.label;
                    fresh = w.fresh;
                    written = k ∙ told room₀ fronts (ap (λ (i : NodeNo). i.0) w.node) n;
                  }) z;
            }
