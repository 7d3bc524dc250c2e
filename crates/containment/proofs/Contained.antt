-- Contained exactly where a mapping exists; where none does, A's witness is a document that obeys the rules, on which A answers the answer node and B does
-- not. Assumes nothing.
use Rattle.tables.proofs.Kit.{ℕ, zero, suc, ◌≤◌, ◌<◌, sym, ap, ◌∙◌, subst, ◌↔◌, arith, get_or}
use Rattle.tables.specs.{Tree.IsLabel, Document.{nodes_of, node_count, NodeRule, ValidDocument}, Pattern.{Shape, ValidShape}}
use Rattle.tables.proofs.Rules.{shape_ordered}
use Rattle.placing.specs.Answer.{Answer}
use Rattle.containment.specs.{Mapping.{Maps, Contained}, Witness.{Fresh, witness_size, witness_of, answer_node}}
use Rattle.containment.proofs.Nodes.{Axes, Witness, For, own, new, kind_to, descendants_le}
use Rattle.containment.proofs.{Written.{witness_is, witness_equal, witness_root}, Shows.{witness_ordered, witness_answer}}
use Rattle.containment.proofs.{Complete.{Unused, shown, complete}, Maps.maps_sound, FreshLabel.{fresh_label, fresh_label_lem}}

pub axes : {A : Shape} → ValidShape A → Axes A
axes v s l = (v.steps s l).axis

-- a witness has at most 128 nodes
pub witness_few : {A : Shape} → ValidShape A → witness_size A ≤ 128
witness_few {A} v = omega (arith, v.few, descendants_le A (axes v) A.tree.size (omega arith))

module _ (A : Shape) (l : ℕ) (v : ValidShape A) (ok : IsLabel l) where
  rows : Witness A l (nodes_of (witness_of A l))
  rows = witness_is A l (axes v)

  -- every label of the witness is a label
  label_at : (i : ℕ) → i < node_count (witness_of A l) → IsLabel (get_or (witness_of A l).labels i 0)
  label_at i h = let k = kind_to A A.tree.size i (axes v) (omega (arith, rows.size)) in go k.step k.small k.what
    where
      go : (s : ℕ) → s < A.tree.size → For A s i → IsLabel (get_or (witness_of A l).labels i 0)
      go s m (own e) = subst IsLabel (sym (ap (nodes_of (witness_of A l)).label e ∙ rows.own_label s m)) (v.steps s m).label
      go s m (new a e) = subst IsLabel (sym (rows.new_label s i m a e)) ok

  node_rule : (i : ℕ) → i < node_count (witness_of A l) → NodeRule (witness_of A l) i
  node_rule zero h = record { hangs = witness_root A l (axes v) v.some; label = label_at 0 h }
  node_rule (suc i) h = record { hangs = (witness_ordered (axes v) (shape_ordered v) rows).order i h; label = label_at (suc i) h }

  -- the witness obeys the rules
  pub witness_valid : ValidDocument (witness_of A l)
  witness_valid = record {
    some = omega (arith, rows.size, v.some);
    few = omega (arith, rows.size, witness_few v);
    equal = witness_equal A l (axes v);
    nodes = node_rule;
  }

  -- A answers the answer node there
  pub witness_answers : Answer A (witness_of A l) (answer_node A)
  witness_answers = witness_answer (axes v) (shape_ordered v) rows

module _ (A B : Shape) (l : ℕ) (va : ValidShape A) (vb : ValidShape B) (f : Fresh A B l) where
  unused : Unused l B
  unused t h e = f.not_second (record { step = t; here = h; is = e })

  -- where B answers the answer node of A's witness, B maps into A
  pub witness_complete : Answer B (witness_of A l) (answer_node A) → (m : ℕ → ℕ) × Maps B A m
  witness_complete a =
      let w : Witness A l (nodes_of (witness_of A l)) = rows A l va f.label in (
        shown (axes va) (shape_ordered va) w unused a.sends,
        complete (axes va) (shape_ordered va) w unused a.sends (shape_ordered vb) vb.output a.first a.at,
      )

  -- where B does not map into A, the witness shows the difference
  pub witness_apart : ((m : ℕ → ℕ) × Maps B A m → ⊥) → Answer B (witness_of A l) (answer_node A) → ⊥
  witness_apart n a = n (witness_complete a)

-- contained exactly where a mapping exists
pub contained_iff : (A B : Shape) → ValidShape A → ValidShape B → Contained A B ↔ ((m : ℕ → ℕ) × Maps B A m)
contained_iff A B va vb = (
  λ h.
      let l : ℕ = fresh_label A B in let f : Fresh A B l = fresh_label_lem A B va vb in
      witness_complete A B l va vb f (h (witness_of A l) (witness_valid A l va f.label) (answer_node A) (witness_answers A l va f.label)),
  λ w. maps_sound w.1,
)
