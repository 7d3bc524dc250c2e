-- The witness as the code writes it, one step after another. Assumes nothing.
use Rattle.tables.proofs.Kit.{ℕ, zero, suc, ◌+◌, ◌-◌, ◌≤◌, ◌<◌, ◌≡◌, refl, sym, ap, ◌∙◌, ◌⊎◌, inl, inr, List, [], ◌∷◌, ◌++◌, append_assoc}
use Rattle.tables.proofs.Kit.{arith, add-one, below_more, get_or-set_same, get_or-set_other, length, get_or, drop, set, length-append}
use Rattle.tables.specs.{Column.{blocks, node_no}, Pattern.{Shape, ValidShape}, declared.NodeNo.NodeNo}
use Rattle.tables.proofs.{Columns.put_next, Rules.shape_ordered, Trees.parent_lt}
use Rattle.containment.specs.{Witness.{descendants, own_node_of, witness_size, hook, parents_for, labels_for}, inner.Results.StepWrote}
use Rattle.containment.proofs.{Nodes.{descendants_le, descendants_mono}, Written.{parents_length, labels_length}, Contained.axes}

-- two entries more of a list that is written from the front
put_two : (xs d : List ℕ) (m u v : ℕ) → length xs ≡ m → m + 1 < length d → set (set (xs ++ drop m d) m u) (m + 1) v ≡ (xs ++ (u ∷ v ∷ [])) ++ drop (m + 2) d
put_two xs d m u v e l =
    let z : length (xs ++ (u ∷ [])) ≡ m + 1 = length-append xs (u ∷ []) ∙ omega arith in
    let w : m + 1 + 1 ≡ m + 2 = omega arith in
    rw (put_next xs d m u e (omega arith), put_next (xs ++ (u ∷ [])) d (m + 1) v z l, w) (simp append_assoc)

-- the first s steps are written, up to place m
pub record Front (A : Shape) (l s m : ℕ) (parents₀ labels₀ parents labels : List ℕ) : Type 0 where
  pub place : m ≡ s + descendants A s
  pub parent_list : parents ≡ blocks (parents_for A) s ++ drop m parents₀
  pub label_list : labels ≡ blocks (labels_for A l) s ++ drop m labels₀

-- the table has the nodes of the first s steps
abbrev pub NodesTo : Shape → ℕ → List NodeNo → Type 0
NodesTo A s nodes = (k : ℕ) → k < s → get_or nodes k (node_no 0) ≡ node_no (own_node_of A k)

-- one step more: its node is the last that is written
pub nodes_more : (A : Shape) (s r : ℕ) (nodes : List NodeNo) → s < length nodes → r ≡ s + 1 + descendants A (s + 1) → NodesTo A s nodes
    → NodesTo A (s + 1) (set nodes s (node_no (r - 1)))
unfolding own_node_of
nodes_more A s r nodes l e old =
    below_more (λ (k : ℕ). get_or (set nodes s (node_no (r - 1))) k (node_no 0) ≡ node_no (own_node_of A k)) s
    (λ k g. get_or-set_other nodes s k (node_no (r - 1)) (node_no 0) (omega arith) ∙ old k g)
    (get_or-set_same nodes s (node_no (r - 1)) (node_no 0) l ∙ ap node_no (rw (← add-one s) (omega (arith, e))))

-- the hook of a step, by the nodes of the steps before it
pub hook_is : (A : Shape) → ValidShape A → (s : ℕ) (r : NodeNo) (nodes : List NodeNo) → s < A.tree.size → NodesTo A s nodes → (s ≡ 0 → r ≡ node_no 65535)
    → (0 < s → r ≡ get_or nodes (A.tree.parent s) (node_no 0)) → r ≡ node_no (hook A s)
unfolding hook
hook_is A v zero r nodes h n f g = f refl
hook_is A v (suc s) r nodes h n f g = g (omega arith) ∙ n (A.tree.parent (suc s)) (parent_lt (shape_ordered v) (suc s) (omega arith) h)

pub front_none : (A : Shape) (l : ℕ) (parents₀ labels₀ : List ℕ) → Front A l 0 0 parents₀ labels₀ parents₀ labels₀
unfolding blocks descendants
front_none A l parents₀ labels₀ = record { place = refl; parent_list = refl; label_list = refl }

module _ (A : Shape) (va : ValidShape A) where
  -- a step's nodes have room in a list that has room for the witness
  pub front_room : (s : ℕ) → s < A.tree.size → s + descendants A s + A.axis s < witness_size A
  unfolding descendants
  front_room s h = omega (arith, descendants_mono A (suc s) A.tree.size h)

  pub own_few : (s : ℕ) → s < A.tree.size → own_node_of A s < 128
  unfolding own_node_of
  own_few s h = omega (arith, descendants_le A (axes va) (suc s) h, va.few)

  module _ (l s m r : ℕ) (parents₀ labels₀ parents labels parents' labels' : List ℕ) (h : s < A.tree.size)
      (f : Front A l s m parents₀ labels₀ parents labels) (w : StepWrote (A.axis s) (node_no (hook A s)) (A.label s) l m parents labels r parents' labels')
      (room : witness_size A ≤ length parents₀) (wide : witness_size A ≤ length labels₀) where
    pl : length (blocks (parents_for A) s) ≡ m
    pl = parents_length A (axes va) s (omega arith) ∙ sym f.place

    ll : length (blocks (labels_for A l) s) ≡ m
    ll = labels_length A l (axes va) s (omega arith) ∙ sym f.place

    by_axis_lem : (A.axis s ≡ 0) ⊎ (A.axis s ≡ 1) → Front A l (suc s) r parents₀ labels₀ parents' labels'
    unfolding blocks descendants parents_for labels_for
    by_axis_lem (inl e) =
        let o = w.one e in let b = front_room s h in
        record {
          place = omega (arith, o.0, f.place);
          parent_list = o.1 ∙ rw (f.parent_list, o.0, e) (put_next (blocks (parents_for A) s) parents₀ m (hook A s) pl (omega (arith, f.place)));
          label_list = o.2 ∙ rw (f.label_list, o.0, e) (put_next (blocks (labels_for A l) s) labels₀ m (A.label s) ll (omega (arith, f.place)));
        }
    by_axis_lem (inr e) =
        let o = w.two e in let b = front_room s h in
        let z : m ≡ s + descendants A s = f.place in
        record {
          place = omega (arith, o.0, f.place);
          parent_list = o.1 ∙ rw (f.parent_list, o.0, e, ← z) (put_two (blocks (parents_for A) s) parents₀ m (hook A s) m pl (omega (arith, f.place)));
          label_list = o.2 ∙ rw (f.label_list, o.0, e) (put_two (blocks (labels_for A l) s) labels₀ m l (A.label s) ll (omega (arith, f.place)));
        }

    -- one step more
    pub front_more : Front A l (s + 1) r parents₀ labels₀ parents' labels'
    front_more = rw (add-one s) (by_axis_lem (va.steps s h).axis)
