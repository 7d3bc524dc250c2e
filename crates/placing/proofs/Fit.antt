-- One problem behind placements and mappings, a task: send the rows of a tree to numbers, each row to one that is right for it and each edge to one that is
-- right for it. Whether a row with all below it can be sent is settled child by child. Assumes nothing.
use Rattle.tables.proofs.Kit.{ℕ, zero, suc, ◌+◌, ◌≤◌, ◌<◌, ◌≡◌, refl, sym, ap, ◌∙◌, subst, subst₂, inl, inr, ⊎_elim, arith, ℕ_discrete}
use Rattle.tables.specs.Tree.{Tree, Child, Below, child, From}
use Rattle.tables.proofs.Choice.{sel, sel_yes, sel_no, below_or_at, upd, upd_same, upd_other}
use Rattle.tables.proofs.Trees.{Ordered, below_trans, below_lt, from_child, below_up, below_parent, from_here, from_root, dec_below, dec_from}

-- what is to be sent, which numbers are right for a row, and which for a row under its parent's
pub record Task : Type 1 where
  pub tree : Tree
  pub ok : ℕ → ℕ → Type 0
  pub edge : ℕ → ℕ → ℕ → Type 0

module _ (P : Task) where
  -- f sends the whole tree
  pub record Fit (f : ℕ → ℕ) : Type 0 where
    pub ok : (u : ℕ) → u < P.tree.size → P.ok u (f u)
    pub edge : (u q : ℕ) → Child P.tree q u → P.edge u (f q) (f u)

  -- f sends s and all below it, s to i
  pub record FitAt (s i : ℕ) (f : ℕ → ℕ) : Type 0 where
    pub at : f s ≡ i
    pub ok : (u : ℕ) → From P.tree s u → P.ok u (f u)
    pub edge : (u q : ℕ) → Child P.tree q u → From P.tree s q → P.edge u (f q) (f u)

  pub data Able : ℕ → ℕ → Type 0 where
    able : {s i : ℕ} → P.ok s i → (next : (t : ℕ) → Child P.tree s t → ℕ) → ((t : ℕ) (c : Child P.tree s t) → P.edge t i (next t c)) →
        ((t : ℕ) (c : Child P.tree s t) → Able t (next t c)) → Able s i

  pub able_ok : {s i : ℕ} → Able s i → P.ok s i
  able_ok (able o n e r) = o

  pub able_next : {s i : ℕ} → Able s i → (t : ℕ) → Child P.tree s t → (j : ℕ) × P.edge t i j × Able t j
  able_next (able o n e r) t c = (n t c, e t c, r t c)

  sub_from : {s t u : ℕ} → Child P.tree s t → From P.tree t u → From P.tree s u
  sub_from c w = inr (⊎_elim (λ e. subst (Below P.tree _) e (child c)) (λ b. below_trans (child c) b) w)

  sub_fit : {s i t : ℕ} {f : ℕ → ℕ} → Child P.tree s t → FitAt s i f → FitAt t (f t) f
  sub_fit c h = record { at = refl; ok = λ u w. h.ok u (sub_from c w); edge = λ u q d w. h.edge u q d (sub_from c w) }

  -- what can be sent, can be sent child by child
  fit_able_to : Ordered P.tree → (k s i : ℕ) (f : ℕ → ℕ) → P.tree.size ≤ k + s → FitAt s i f → Able s i
  fit_able_to v zero s i f l h =
      able (subst (P.ok s) h.at (h.ok s (inl refl))) (λ t c. f t)
      (λ t c. subst (λ (x : ℕ). P.edge t x (f t)) h.at (h.edge t s c (inl refl)))
      (λ t c. absurd (omega (arith, below_lt v (child c), c.here)))
  fit_able_to v (suc k) s i f l h =
      able (subst (P.ok s) h.at (h.ok s (inl refl))) (λ t c. f t)
      (λ t c. subst (λ (x : ℕ). P.edge t x (f t)) h.at (h.edge t s c (inl refl)))
      (λ t c. fit_able_to v k t (f t) f (omega (arith, below_lt v (child c), c.here)) (sub_fit c h))

  pub fit_able : Ordered P.tree → (s i : ℕ) (f : ℕ → ℕ) → FitAt s i f → Able s i
  fit_able v s i f h = fit_able_to v P.tree.size s i f (omega arith) h

  -- s and the rows below it are sent, as far as row k
  record Part (s i k : ℕ) : Type 0 where
    by : ℕ → ℕ
    at : by s ≡ i
    can : (u : ℕ) → u < k → From P.tree s u → Able u (by u)
    edge : (u q : ℕ) → u < k → Child P.tree q u → From P.tree s q → P.edge u (by q) (by u)

  part : Ordered P.tree → (s i k : ℕ) → Able s i → s < k → Part s i k
  part v s i zero a l = absurd (omega arith)
  part v s i (suc k) a l = go (λ m. part v s i k a m) (ℕ_discrete s k) (dec_below v s k)
    where
      first : s ≡ k → Part s i (suc k)
      first e = record {
        by = λ u. i;
        at = refl;
        can = λ u m w. ⊎_elim (λ d. subst (λ (x : ℕ). Able x i) d a) (λ b. absurd (omega (arith, below_lt v b))) w;
        edge = λ u q m c w. absurd (omega (arith, below_lt v (from_child w c)));
      }

      skip : s < k → (Below P.tree s k → ⊥) → Part s i k → Part s i (suc k)
      skip m n p = record {
        by = p.by;
        at = p.at;
        can = λ u g w. below_or_at g (λ h. p.can u h w) (λ e. ⊎_elim (λ d. absurd (omega arith)) (λ b. absurd (n (subst (Below P.tree s) e b))) w);
        edge = λ u q g c w. below_or_at g (λ h. p.edge u q h c w) (λ e. absurd (n (subst (Below P.tree s) e (from_child w c))));
      }

      extend : s < k → Below P.tree s k → Part s i k → Part s i (suc k)
      extend m b p = record {
        by = g;
        at = other s m ∙ p.at;
        can = λ u h w. below_or_at h (λ h. subst (Able u) (sym (other u h)) (p.can u h w)) (λ e. subst₂ Able (sym e) (sym (same u e)) n.2);
        edge = λ u q h d w. below_or_at h
            (λ h. subst₂ (P.edge u) (sym (other q (omega (arith, below_lt v (child d))))) (sym (other u h)) (p.edge u q h d w))
            (λ e. subst (λ (x : ℕ). P.edge x (g q) (g x)) (sym e)
            (subst₂ (P.edge k) (sym (other q (omega (arith, below_lt v (child d))) ∙ ap p.by (sym d.up ∙ ap P.tree.parent e))) (sym (same k refl))
            n.1));
      }
        where
          c : Child P.tree (P.tree.parent k) k
          c = (below_up b).0

          n : (j : ℕ) × P.edge k (p.by (P.tree.parent k)) j × Able k j
          n = able_next (p.can (P.tree.parent k) (below_lt v (child c)) (below_up b).1) k c

          g : ℕ → ℕ
          g = upd p.by k n.0

          other : (u : ℕ) → u < k → g u ≡ p.by u
          other u h = upd_other p.by k n.0 u (omega arith)

          same : (u : ℕ) → u ≡ k → g u ≡ n.0
          same u e = upd_same p.by k n.0 u e

      go : (s < k → Part s i k) → Dec (s ≡ k) → Dec (Below P.tree s k) → Part s i (suc k)
      go r (yes e) d = first e
      go r (no e) (no n) = skip (omega arith) n (r (omega arith))
      go r (no e) (yes b) = extend (omega arith) b (r (omega arith))

  -- and what can be sent child by child can be sent
  pub able_fit : Ordered P.tree → (s i : ℕ) → s < P.tree.size → Able s i → (f : ℕ → ℕ) × FitAt s i f
  able_fit v s i l a =
      let p : Part s i P.tree.size = part v s i P.tree.size a l in (
        p.by,
        record {
          at = p.at;
          ok = λ u w. able_ok (p.can u (from_here l w) w);
          edge = λ u q c w. p.edge u q c.here c w;
        },
      )

  -- f, with s and all below it sent anew by g
  module _ (v : Ordered P.tree) (s : ℕ) (f g : ℕ → ℕ) where
    graft : ℕ → ℕ
    graft u = sel (dec_from v s u) (g u) (f u)

    graft_in : (u : ℕ) → From P.tree s u → graft u ≡ g u
    unfolding graft
    graft_in u w = sel_yes (dec_from v s u) (g u) (f u) w

    graft_out : (u : ℕ) → (From P.tree s u → ⊥) → graft u ≡ f u
    unfolding graft
    graft_out u w = sel_no (dec_from v s u) (g u) (f u) w

  module _ (Start : ℕ → Type 0) where
    -- the whole tree can be sent, s to i
    pub record Whole (s i : ℕ) : Type 0 where
      pub by : ℕ → ℕ
      pub fit : Fit by
      pub start : Start (by 0)
      pub at : by s ≡ i

    whole_fit : {s i : ℕ} → s < P.tree.size → (h : Whole s i) → FitAt s i h.by
    whole_fit l h = record { at = h.at; ok = λ u w. h.fit.ok u (from_here l w); edge = λ u q c w. h.fit.edge u q c }

    pub whole_able : Ordered P.tree → (s i : ℕ) → s < P.tree.size → Whole s i → Able s i
    whole_able v s i l h = fit_able v s i h.by (whole_fit l h)

    pub whole_root : Ordered P.tree → (i : ℕ) → Start i → Able 0 i → Whole 0 i
    whole_root v i st a =
        let p = able_fit v 0 i v.some a in
        record {
          by = p.0;
          fit = record {
            ok = λ u l. p.1.ok u (from_root v u l);
            edge = λ u q c. p.1.edge u q c (from_root v q (omega (arith, below_lt v (child c), c.here)));
          };
          start = subst Start (sym p.1.at) st;
          at = p.1.at;
        }

    pub whole_up : (s q i : ℕ) → Child P.tree q s → Whole s i → (j : ℕ) × Whole q j × P.edge s j i
    whole_up s q i c h = (h.by q, record { by = h.by; fit = h.fit; start = h.start; at = refl }, subst (P.edge s (h.by q)) h.at (h.fit.edge s q c))

    pub whole_down : Ordered P.tree → (s q i j : ℕ) → Child P.tree q s → Whole q j → P.edge s j i → Able s i → Whole s i
    whole_down v s q i j c h e a = record {
      by = x;
      fit = record { ok = λ u l. ok u l (dec_from v s u); edge = λ u r d. edge u r d (ℕ_discrete s u) (dec_below v s u) };
      start = subst Start (sym (past 0 (λ w. ⊎_elim (λ e. omega (arith, c.late)) (λ b. omega (arith, below_lt v b)) w))) h.start;
      at = into s (inl refl) ∙ p.1.at;
    }
      where
        p : (g : ℕ → ℕ) × FitAt s i g
        p = able_fit v s i c.here a

        f : ℕ → ℕ
        f = h.by

        g : ℕ → ℕ
        g = p.0

        x : ℕ → ℕ
        x = graft v s f g

        into : (u : ℕ) → From P.tree s u → x u ≡ g u
        into u w = graft_in v s f g u w

        past : (u : ℕ) → (From P.tree s u → ⊥) → x u ≡ f u
        past u w = graft_out v s f g u w

        ok : (u : ℕ) → u < P.tree.size → Dec (From P.tree s u) → P.ok u (x u)
        ok u l (yes w) = subst (P.ok u) (sym (into u w)) (p.1.ok u w)
        ok u l (no w) = subst (P.ok u) (sym (past u w)) (h.fit.ok u l)

        edge : (u r : ℕ) → Child P.tree r u → Dec (s ≡ u) → Dec (Below P.tree s u) → P.edge u (x r) (x u)
        edge u r d (yes z) b =
            let y : r ≡ q = sym d.up ∙ ap P.tree.parent (sym z) ∙ c.up in
            subst (λ (n : ℕ). P.edge n (x r) (x n)) z
            (subst₂ (P.edge s) (sym (past r (λ w. ⊎_elim (λ k. omega (arith, below_lt v (child c))) (λ k. omega (arith, below_lt v (child c), below_lt v k))
            w) ∙ ap f y ∙ h.at))
            (sym (into s (inl refl) ∙ p.1.at)) e)
        edge u r d (no z) (yes b) = subst₂ (P.edge u) (sym (into r (below_parent b d))) (sym (into u (inr b))) (p.1.edge u r d (below_parent b d))
        edge u r d (no z) (no b) = subst₂ (P.edge u) (sym (past r (λ w. b (from_child w d)))) (sym (past u (λ w. ⊎_elim z b w))) (h.fit.edge u r d)
