-- A has its answer node for an answer in its own witness, and the witness obeys the rules for documents. Assumes nothing.
use Rattle.tables.proofs.Kit.{ℕ, zero, suc, ◌+◌, ◌≤◌, ◌<◌, ◌≡◌, refl, sym, ap, ◌∙◌, subst₂, ◌⊎◌, inl, inr, ⊎_elim, arith, ℕ_discrete}
use Rattle.tables.specs.{Tree.{Child, Below, child, under, Rows}, Pattern.Shape}
use Rattle.tables.proofs.Trees.{Ordered}
use Rattle.placing.specs.{Placement.{Goes, Sends, Reaches}, Answer.Begins}
use Rattle.placing.proofs.Compose.{below_sends}
use Rattle.containment.specs.Witness.{descendants, own_node_of, answer_node}
use Rattle.containment.proofs.Nodes.{Axes, descendants_mono, Witness, For, own, new, Kind, kind_to, own_first}

module _ {A : Shape} {φ : ℕ} {W : Rows} (ax : Axes A) (v : Ordered A.tree) (w : Witness A φ W) where
  inside : (s : ℕ) → s < A.tree.size → own_node_of A s < W.tree.size
  unfolding own_node_of
  inside s l = omega (arith, descendants_mono A (suc s) A.tree.size l, w.size)

  past : (s : ℕ) → s + A.axis s ≤ own_node_of A s
  unfolding own_node_of descendants
  past s = omega arith

  pub own_placement : Sends A W (own_node_of A)
  own_placement = record { takes = λ s l. record { here = inside s l; fits = record { same = w.own_label s l } }; edge = λ s q c. go s q c (ax s c.here) }
    where
      go : (s q : ℕ) → Child A.tree q s → (A.axis s ≡ 0) ⊎ (A.axis s ≡ 1) → Goes W (A.axis s) (own_node_of A q) (own_node_of A s)
      go s q c (inl e) = rw e (record { late = omega (arith, past s, c.late); here = inside s c.here; up = w.own_along s q c e }, w.flat (own_node_of A s))
      go s q c (inr e) =
          let i : ℕ = W.tree.parent (own_node_of A s) in
          let d : suc i ≡ own_node_of A s = w.own_down s c.here e in
          let upper : Child W.tree (own_node_of A q) i = record {
            late = omega (arith, past s, c.late);
            here = omega (arith, inside s c.here);
            up = w.new_up s q i c e d;
          } in
          let lower : Child W.tree i (own_node_of A s) = record { late = omega (arith, past s, c.late); here = inside s c.here; up = refl } in
          rw e (under lower (child upper))

  -- the node written just before step suc t's nodes is t's own
  before : (t : ℕ) → own_node_of A (suc t) ≡ suc (own_node_of A t) + A.axis (suc t)
  unfolding own_node_of descendants
  before t = omega arith

  -- the parent of the first node written for step t
  follows : (t i : ℕ) → 0 < t → t < A.tree.size → suc (i + A.axis t) ≡ own_node_of A t → W.tree.parent (suc i) ≡ own_node_of A (A.tree.parent t)
      → (W.tree.parent (suc i) ≡ i) ⊎ Below W.tree (W.tree.parent (suc i)) i
  follows zero i p l e u = absurd (omega arith)
  follows (suc t) i p l e u =
      let z : own_node_of A t ≡ i = omega (arith, before t) in
      ⊎_elim (λ d. inl (u ∙ ap (own_node_of A) d ∙ z)) (λ b. inr (subst₂ (Below W.tree) (sym u) z (below_sends own_placement b))) (v.order t l)

  pub witness_ordered : Ordered W.tree
  witness_ordered = record { some = omega (arith, w.size, v.some); order = λ i l. go i (kind_to A A.tree.size (suc i) ax (omega (arith, w.size))) }
    where
      hangs : (t : ℕ) → t < A.tree.size → 0 < t → Child A.tree (A.tree.parent t) t
      hangs t l p = record { late = p; here = l; up = refl }

      off : (i : ℕ) (t : ℕ) → t < A.tree.size → For A t (suc i) → (A.axis t ≡ 0) ⊎ (A.axis t ≡ 1) → Dec (t ≡ 0) → (W.tree.parent (suc i) ≡ i) ⊎ Below
          W.tree (W.tree.parent (suc i)) i
      off i t l (own e) (inl a) (yes z) = absurd (omega (arith, own_first A t z))
      off i t l (own e) (inl a) (no z) = follows t i (omega arith) l (omega arith)
          (ap W.tree.parent e ∙ w.own_along t (A.tree.parent t) (hangs t l (omega arith)) a)
      off i t l (own e) (inr a) z = inl (omega (arith, w.own_down t l a, ap W.tree.parent e))
      off i t l (new a e) x (yes z) = absurd (omega (arith, own_first A t z))
      off i t l (new a e) x (no z) = follows t i (omega arith) l (omega arith) (w.new_up t (A.tree.parent t) (suc i) (hangs t l (omega arith)) a e)

      go : (i : ℕ) → Kind A A.tree.size (suc i) → (W.tree.parent (suc i) ≡ i) ⊎ Below W.tree (W.tree.parent (suc i)) i
      go i k = off i k.step k.small k.what (ax k.step k.small) (ℕ_discrete k.step 0)

  -- the answer node is an answer of A
  pub witness_answer : Reaches A W (Begins A) A.output (answer_node A)
  witness_answer = record { by = own_node_of A; sends = own_placement; first = λ e. own_first A 0 refl ∙ e; at = refl }
