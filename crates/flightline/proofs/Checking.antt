-- A test for each kind of fact, and that what passes holds. Assumes nothing.
use Rattle.tables.proofs.Kit.{ℕ, ◌*◌, ◌≤◌, ◌≡◌, sym, subst, subst₂, Bool, true, ◌&&◌, not, List, [], ◌∷◌, arith, T, ltb, eqb, eqb→eq, ltb→lt, length}
use Rattle.tables.specs.{Column.column, Document.{Document, node_count, ValidDocument}}
use Rattle.tables.specs.{Pattern.{shape_of, pattern_of, ValidPattern}, Refusal.Passes, declared.Pattern.Pattern}
use Rattle.tables.proofs.Rules.{is_pattern, tells_pattern, same_pattern, same_pattern_lem, same_document, same_document_lem}
use Rattle.tables.proofs.Tests.{tells_self, tells_not, and_both, same_list, same_list_lem}
use Rattle.packets.specs.PatternPacket.{pattern_packet, packet_shape, pattern_checks}
use Rattle.packets.proofs.PatternTrip.{pattern_packet_passes}
use Rattle.placing.specs.Answer.{Begins, Answer, Started, In, Lists}
use Rattle.answers.specs.Working.{Working}
use Rattle.answers.proofs.Tested.{
  begins,
  tells_begins,
  is_in,
  tells_in,
  is_start_list,
  tells_start_list,
  tested_answers,
  answers_of,
  tested_working,
  working_of,
}
use Rattle.containment.specs.Witness.{Fresh, witness_of, answer_node}
use Rattle.containment.proofs.Contained.{witness_valid, witness_answers, witness_apart}
use Rattle.containment.proofs.{Deciding.{maps_into, least_mapping, least_mapping_lem, tells_maps, tells_contained}, FreshLabel.{fresh_label, fresh_label_lem}}
use Rattle.rewriting.proofs.{Deciding.{candidate_of, rewritable, tells_rewritable, not_rewritable}, Rewritten.rewriting_exact}
use Rattle.flightline.specs.Fact.{Fact, answers, packet, working, contained, apart, equal, handed, started, nothing, Holds, AllHold}

-- does the fact hold on d?
unfoldable pub test : Document → Fact → Bool
test d (answers A xs) = is_pattern (shape_of A) && same_list (tested_answers (shape_of A) d (begins (shape_of A))) xs
test d (packet A bs) = is_pattern (shape_of A) && (same_list (pattern_packet (shape_of A)) bs && same_pattern A (pattern_of (packet_shape bs)))
test d (working A ws) = is_pattern (shape_of A) && (eqb (length ws) (2 * node_count d) && same_list (tested_working (shape_of A) d (begins (shape_of A))) ws)
test d (contained A B ms) =
    is_pattern (shape_of A) && (is_pattern (shape_of B) && (maps_into (shape_of B) (shape_of A) && same_list
    (column (least_mapping (shape_of B) (shape_of A)) B.count) ms))
test d (apart A B l w i) =
    is_pattern (shape_of A) && (is_pattern (shape_of B) && (not (maps_into (shape_of B) (shape_of A)) && (eqb (fresh_label (shape_of A) (shape_of B)) l
    && (same_document (witness_of (shape_of A) l) w && eqb (answer_node (shape_of A)) i))))
test d (equal A B) = is_pattern (shape_of A) && (is_pattern (shape_of B) && (maps_into (shape_of B) (shape_of A) && maps_into (shape_of A) (shape_of B)))
test d (handed Q U C) =
    is_pattern (shape_of Q) && (is_pattern (shape_of U) && (ltb Q.count 33 && (ltb U.count 33 && (rewritable Q U && same_pattern C (candidate_of Q U)))))
test d (started C ss xs) = is_pattern (shape_of C) && (eqb ((shape_of C).axis 0) 0 &&
    (is_start_list d ss && same_list (tested_answers (shape_of C) d (is_in ss)) xs))
test d (nothing Q U) = is_pattern (shape_of Q) && (is_pattern (shape_of U) && (ltb Q.count 33 && (ltb U.count 33 && not (rewritable Q U))))

unfoldable pub test_all : Document → List Fact → Bool
test_all d [] = true
test_all d (f ∷ fs) = test d f && test_all d fs

valid : (A : Pattern) → T (is_pattern (shape_of A)) → ValidPattern A
valid A t = (tells_pattern (shape_of A)).says t

-- what passes holds
pub test_sound : (d : Document) → ValidDocument d → (f : Fact) → T (test d f) → Holds d f
unfolding test
test_sound d vd (answers A xs) t =
    let p = and_both (is_pattern (shape_of A)) _ t in (
      valid A p.0,
      subst (Lists (Answer (shape_of A) d)) (same_list_lem _ xs p.1)
          (answers_of (shape_of A) d (begins (shape_of A)) (Begins (shape_of A)) (valid A p.0) vd (tells_begins (shape_of A))),
    )
test_sound d vd (packet A bs) t =
    let p = and_both (is_pattern (shape_of A)) _ t in
    let q = and_both (same_list (pattern_packet (shape_of A)) bs) _ p.1 in
    let e : pattern_packet (shape_of A) ≡ bs = same_list_lem (pattern_packet (shape_of A)) bs q.0 in
    (e, (subst (λ (x : List ℕ). Passes (pattern_checks x)) e (pattern_packet_passes (valid A p.0)), same_pattern_lem A (pattern_of (packet_shape bs)) q.1))
test_sound d vd (working A ws) t =
    let p = and_both (is_pattern (shape_of A)) _ t in
    let q = and_both (eqb (length ws) (2 * node_count d)) _ p.1 in
    let e : tested_working (shape_of A) d (begins (shape_of A)) ≡ ws = same_list_lem _ ws q.1 in (
      valid A p.0,
      eqb→eq (length ws) (2 * node_count d) q.0,
      subst (λ (x : List ℕ). Working (shape_of A) d (Begins (shape_of A)) x x) e
          (working_of (shape_of A) d (begins (shape_of A)) (Begins (shape_of A)) (valid A p.0) vd (tells_begins (shape_of A))),
    )
test_sound d vd (contained A B ms) t =
    let p = and_both (is_pattern (shape_of A)) _ t in let q = and_both (is_pattern (shape_of B)) _ p.1 in
    let r = and_both (maps_into (shape_of B) (shape_of A)) _ q.1 in
    let va : ValidPattern A = valid A p.0 in let vb : ValidPattern B = valid B q.0 in
    let m = (tells_maps (shape_of B) (shape_of A) vb va).says r.0 in (
      va,
      vb,
      (tells_contained (shape_of B) (shape_of A) vb va).says r.0,
      (least_mapping (shape_of B) (shape_of A), least_mapping_lem (shape_of B) (shape_of A) vb va m.0 m.1, same_list_lem _ ms r.1),
    )
test_sound d vd (apart A B l w i) t =
    let p = and_both (is_pattern (shape_of A)) _ t in let q = and_both (is_pattern (shape_of B)) _ p.1 in
    let r = and_both (not (maps_into (shape_of B) (shape_of A))) _ q.1 in
    let s = and_both (eqb (fresh_label (shape_of A) (shape_of B)) l) _ r.1 in
    let u = and_both (same_document (witness_of (shape_of A) l) w) _ s.1 in
    let va : ValidPattern A = valid A p.0 in let vb : ValidPattern B = valid B q.0 in
    let f : Fresh (shape_of A) (shape_of B) l = subst (Fresh (shape_of A) (shape_of B)) (eqb→eq _ l s.0) (fresh_label_lem (shape_of A) (shape_of B) va vb) in
    let e : witness_of (shape_of A) l ≡ w = same_document_lem (witness_of (shape_of A) l) w u.0 in
    let n : answer_node (shape_of A) ≡ i = eqb→eq (answer_node (shape_of A)) i u.1 in (
      va,
      vb,
      (tells_not (tells_contained (shape_of B) (shape_of A) vb va)).says r.0,
      f,
      e,
      n,
      subst ValidDocument e (witness_valid (shape_of A) l va f.label),
      subst₂ (Answer (shape_of A)) e n (witness_answers (shape_of A) l va f.label),
      λ a. witness_apart (shape_of A) (shape_of B) l va vb f ((tells_not (tells_maps (shape_of B) (shape_of A) vb va)).says r.0)
          (subst₂ (Answer (shape_of B)) (sym e) (sym n) a),
    )
test_sound d vd (equal A B) t =
    let p = and_both (is_pattern (shape_of A)) _ t in let q = and_both (is_pattern (shape_of B)) _ p.1 in
    let r = and_both (maps_into (shape_of B) (shape_of A)) _ q.1 in
    let va : ValidPattern A = valid A p.0 in let vb : ValidPattern B = valid B q.0 in
    (va, vb, record { to = (tells_contained (shape_of B) (shape_of A) vb va).says r.0; back = (tells_contained (shape_of A) (shape_of B) va vb).says r.1 })
test_sound d vd (handed Q U C) t =
    let p = and_both (is_pattern (shape_of Q)) _ t in let q = and_both (is_pattern (shape_of U)) _ p.1 in
    let r = and_both (ltb Q.count 33) _ q.1 in let s = and_both (ltb U.count 33) _ r.1 in
    let u = and_both (rewritable Q U) _ s.1 in
    let nq : Q.count ≤ 32 = omega (arith, ltb→lt Q.count 33 r.0) in
    let nu : U.count ≤ 32 = omega (arith, ltb→lt U.count 33 s.0) in
    let k = (tells_rewritable Q U (valid Q p.0) (valid U q.0) nq nu).says u.0 in
    let e : C ≡ candidate_of Q U = same_pattern_lem C (candidate_of Q U) u.1 in
    ((valid Q p.0, (valid U q.0, ((nq, nu), tt))), (rw e k.0, rw e k.1))
test_sound d vd (started C ss xs) t =
    let p = and_both (is_pattern (shape_of C)) _ t in let q = and_both (eqb ((shape_of C).axis 0) 0) _ p.1 in
    let r = and_both (is_start_list d ss) _ q.1 in (
      valid C p.0,
      eqb→eq ((shape_of C).axis 0) 0 q.0,
      (tells_start_list d ss).says r.0,
      subst (Lists (Started (In ss) (shape_of C) d)) (same_list_lem _ xs r.1) (answers_of (shape_of C) d (is_in ss) (In ss) (valid C p.0) vd (tells_in ss)),
    )
test_sound d vd (nothing Q U) t =
    let p = and_both (is_pattern (shape_of Q)) _ t in let q = and_both (is_pattern (shape_of U)) _ p.1 in
    let r = and_both (ltb Q.count 33) _ q.1 in let s = and_both (ltb U.count 33) _ r.1 in
    let vq : ValidPattern Q = valid Q p.0 in let vu : ValidPattern U = valid U q.0 in
    let nq : Q.count ≤ 32 = omega (arith, ltb→lt Q.count 33 r.0) in
    let nu : U.count ≤ 32 = omega (arith, ltb→lt U.count 33 s.0) in
    let n = not_rewritable Q U vq vu nq nu ((tells_not (tells_self {b = rewritable Q U})).says s.1) in
    (((vq, (vu, ((nq, nu), tt))), n), λ E h. let c = (rewriting_exact Q U vq vu nq nu).0 (E, h) in n c.0 c.1 c.2)

-- a table that passes holds, line for line
pub test_all_lem : (d : Document) → ValidDocument d → (fs : List Fact) → T (test_all d fs) → AllHold d fs
unfolding test_all
test_all_lem d vd [] t = tt
test_all_lem d vd (f ∷ fs) t = let p = and_both (test d f) (test_all d fs) t in (test_sound d vd f p.0, test_all_lem d vd fs p.1)
