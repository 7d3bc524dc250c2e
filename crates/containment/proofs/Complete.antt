-- If the answer node of A's witness is an answer of B there, then B maps into A. Assumes nothing.
use Rattle.tables.proofs.Kit.{ℕ, zero, suc, ◌+◌, ◌<◌, ◌≡◌, refl, sym, ap, ◌∙◌, subst₂, ◌⊎◌, inl, inr, ⊎_elim, ◌≢◌, arith, dec_lt, ℕ_discrete}
use Rattle.tables.specs.{Tree.{Child, Below, child, under, Rows}, Pattern.{Shape, rows_of}}
use Rattle.tables.proofs.Trees.{Ordered, parent_lt}
use Rattle.placing.specs.{Placement.{Goes, Sends}, Answer.Begins}
use Rattle.containment.specs.{Mapping.Maps, Witness.own_node_of}
use Rattle.containment.proofs.Nodes.{Axes, Witness, For, own, new, Kind, kind_to, own_mono, own_inj, own_new, own_first}

module _ {A : Shape} {φ : ℕ} {W : Rows} (ax : Axes A) (v : Ordered A.tree) (w : Witness A φ W) where
  -- a step other than the first hangs on its parent
  hangs : {t : ℕ} → t < A.tree.size → 0 < t → Child A.tree (A.tree.parent t) t
  hangs l p = record { late = p; here = l; up = refl }

  -- one edge of the witness, read in A. What is known of its upper node m: it is s's own, or every step that it was written for is below s.
  Known : ℕ → ℕ → Type 0
  Known s m = (m ≡ own_node_of A s) ⊎ ((u : ℕ) → u < A.tree.size → For A u m → Below A.tree s u)

  join : (s t m : ℕ) → t < A.tree.size → 0 < t → m ≡ own_node_of A (A.tree.parent t) → Known s m → Below A.tree s t
  unfolding Known
  join s t m l p e (inl d) = child (record { late = p; here = l; up = own_inj A (A.tree.parent t) s (sym e ∙ d) })
  join s t m l p e (inr r) = under (hangs l p) (r (A.tree.parent t) (omega (arith, parent_lt v t p l)) (own e))

  edge : (s t m i : ℕ) → Child W.tree m i → t < A.tree.size → For A t i → Known s m → Below A.tree s t
  unfolding Known
  edge s t m i c l (new a e) k = go (ℕ_discrete t 0)
    where
      go : Dec (t ≡ 0) → Below A.tree s t
      go (yes z) = absurd (omega (arith, own_first A t z, c.late))
      go (no z) = let p : 0 < t = omega arith in join s t m l p (sym c.up ∙ w.new_up t (A.tree.parent t) i (hangs l p) a e) k
  edge s t m i c l (own e) k = go (ax t l) (ℕ_discrete t 0) k
    where
      go : (A.axis t ≡ 0) ⊎ (A.axis t ≡ 1) → Dec (t ≡ 0) → Known s m → Below A.tree s t
      go (inl a) (yes z) k = absurd (omega (arith, own_first A t z, c.late))
      go (inl a) (no z) k =
          let p : 0 < t = omega arith in
          join s t m l p (sym c.up ∙ ap W.tree.parent e ∙ w.own_along t (A.tree.parent t) (hangs l p) a) k
      go (inr a) z k =
          let d : suc m ≡ own_node_of A t = omega (arith, w.own_down t l a, ap W.tree.parent e, c.up) in
          ⊎_elim (λ o. absurd (own_new A s t m o a d)) (λ r. r t l (new a d)) k

  -- what is below s's own node in the witness is below s in A
  climb : {a i : ℕ} → Below W.tree a i → (s t : ℕ) → a ≡ own_node_of A s → t < A.tree.size → For A t i → Below A.tree s t
  unfolding Known
  climb {a} {i} (child c) s t e l f = edge s t a i c l f (inl e)
  climb {a} {i} (under {m = m} c b) s t e l f = edge s t m i c l f (inr (λ u lu fu. climb b s u e lu fu))

  -- a child in the witness, between own nodes, is along a child edge of A
  along : (s t : ℕ) → t < A.tree.size → Child W.tree (own_node_of A s) (own_node_of A t) → Child A.tree s t × (A.axis t ≡ 0)
  along s t l c = go (ax t l) (ℕ_discrete t 0)
    where
      go : (A.axis t ≡ 0) ⊎ (A.axis t ≡ 1) → Dec (t ≡ 0) → Child A.tree s t × (A.axis t ≡ 0)
      go (inl a) (yes z) = absurd (omega (arith, own_first A t z, c.late))
      go (inl a) (no z) =
          let p : 0 < t = omega arith in
          (record { late = p; here = l; up = own_inj A (A.tree.parent t) s (sym (w.own_along t (A.tree.parent t) (hangs l p) a) ∙ c.up) }, a)
      go (inr a) z = absurd (own_new A s t (own_node_of A s) refl a (omega (arith, w.own_down t l a, c.up)))

-- the label stands at no step of B
abbrev pub Unused : ℕ → Shape → Type 0
Unused φ B = (t : ℕ) → t < B.tree.size → B.label t ≢ φ

module _ {A B : Shape} {φ : ℕ} {W : Rows} (ax : Axes A) (v : Ordered A.tree) (w : Witness A φ W) (fr : Unused φ B) {f : ℕ → ℕ} (p : Sends B W f) where
  -- the step of A whose own node step t of B was placed at
  record Back (t : ℕ) : Type 0 where
    to : ℕ
    small : to < A.tree.size
    at : f t ≡ own_node_of A to

  back : (t : ℕ) → t < B.tree.size → Back t
  back t l = go (kind_to A A.tree.size (f t) ax (omega (arith, (p.takes t l).here, w.size)))
    where
      go : Kind A A.tree.size (f t) → Back t
      go k = elim k.what [
        | own e ↦ record { to = k.step; small = k.small; at = e }
        | new a e ↦ absurd (fr t l (sym (p.takes t l).fits.same ∙ w.new_label k.step (f t) k.small a e))
      ]

  pick : (t : ℕ) → Dec (t < B.tree.size) → ℕ
  pick t (yes l) = (back t l).to
  pick t (no l) = 0

  pick_small : (t : ℕ) (d : Dec (t < B.tree.size)) → t < B.tree.size → pick t d < A.tree.size
  unfolding pick
  pick_small t (yes l) h = (back t l).small
  pick_small t (no l) h = absurd (l h)

  pick_at : (t : ℕ) (d : Dec (t < B.tree.size)) → t < B.tree.size → f t ≡ own_node_of A (pick t d)
  unfolding pick
  pick_at t (yes l) h = (back t l).at
  pick_at t (no l) h = absurd (l h)

  -- the mapping that the placement shows
  pub shown : ℕ → ℕ
  shown t = pick t (dec_lt t B.tree.size)

  small : (t : ℕ) → t < B.tree.size → shown t < A.tree.size
  unfolding shown
  small t l = pick_small t (dec_lt t B.tree.size) l

  at : (t : ℕ) → t < B.tree.size → f t ≡ own_node_of A (shown t)
  unfolding shown
  at t l = pick_at t (dec_lt t B.tree.size) l

  -- is a mapping
  pub complete : Ordered B.tree → B.output < B.tree.size → Begins B (f 0) → f B.output ≡ own_node_of A A.output → Maps B A shown
  complete vb lo st o = record {
    sends = record {
      takes = λ t l. record {
        here = small t l;
        fits = record {
          same = sym (w.own_label (shown t) (small t l)) ∙ ap W.label (sym (at t l)) ∙ (p.takes t l).fits.same;
        };
      };
      edge = λ t q c. go t q c (B.axis t) (p.edge t q c);
    };
    first = λ e. begins (own_mono A 0 (shown 0)) (sym (at 0 vb.some) ∙ st e);
    output = own_inj A (shown B.output) A.output (sym (at B.output lo) ∙ o);
  }
    where
      up : {t q : ℕ} → Child B.tree q t → q < B.tree.size
      up {t} c = omega (arith, parent_lt vb t c.late c.here, c.up, c.here)

      go : (t q : ℕ) → Child B.tree q t → (a : ℕ) → Goes W a (f q) (f t) → Goes (rows_of A) a (shown q) (shown t)
      go t q c zero h = along ax v w (shown q) (shown t) (small t c.here) (subst₂ (Child W.tree) (at q (up c)) (at t c.here) h.0)
      go t q c (suc a) h = climb ax v w h (shown q) (shown t) (at q (up c)) (small t c.here) (own (at t c.here))

      begins : (0 < shown 0 → own_node_of A 0 + A.axis (shown 0) < own_node_of A (shown 0)) → own_node_of A (shown 0) ≡ 0 → (shown 0 ≡ 0) × (A.axis 0 ≡ 0)
      begins g e = pick0 (ℕ_discrete (shown 0) 0)
        where
          pick0 : Dec (shown 0 ≡ 0) → (shown 0 ≡ 0) × (A.axis 0 ≡ 0)
          pick0 (yes z) = (z, sym (own_first A 0 refl) ∙ ap (own_node_of A) (sym z) ∙ e)
          pick0 (no z) = absurd (omega (arith, g (omega arith)))
