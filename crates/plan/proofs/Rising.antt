-- Which steps of a pattern fit at each row, from the last row to the first: how such a pass starts, one turn, and what it finds. The rows are a document's
-- nodes or another pattern's steps, and their two numbers are functions of the row, whatever lists they stand in. Assumes nothing.
use Rattle.tables.proofs.Kit.{ℕ, zero, suc, ◌≤◌, ◌<◌, ◌≡◌, refl, sym, ap, ◌∙◌, subst, ◌⊎◌, inl, inr, ⊎_elim, ◌↔◌, arith, eq-or-lt_of_le, ℕ_discrete, bit_or}
use Rattle.tables.specs.{Bits.{bit, Marks}, Tree.{Child, Below, child, From, Rows}, Pattern.Shape}
use Rattle.tables.proofs.{Marks.{marks_to, marks_or, marks_none}, Trees.{Ordered, below_lt, below_top, top_below}}
use Rattle.placing.specs.Placement.{Goes}
use Rattle.placing.proofs.Fit.{Task, Able, able, able_ok, able_next}
use Rattle.plan.specs.{Steps.{mask_for, FitsBy}, Rising.Turned}

module _ (X : Rows) (Fits : ℕ → ℕ → Type 0) where
  -- step s fits at a child of row i that is k or later, along a child edge
  abbrev AtChild : ℕ → ℕ → ℕ → Type 0
  AtChild k i s = (j : ℕ) × (k ≤ j) × Child X.tree i j × (X.axis j ≡ 0) × Fits j s

  -- step s fits at or below a child of row i that is k or later
  abbrev Under : ℕ → ℕ → ℕ → Type 0
  Under k i s = (j : ℕ) × (k ≤ j) × Child X.tree i j × ((m : ℕ) × From X.tree j m × Fits m s)

  -- rows from k on have what fits at them; earlier ones have gathered what fits at their later children, and at or below them
  pub record Risen (k : ℕ) (fit under : ℕ → ℕ) : Type 0 where
    pub fits : (i : ℕ) → k ≤ i → i < X.tree.size → Marks (fit i) (Fits i)
    pub children : (i : ℕ) → i < k → Marks (fit i) (AtChild k i)
    pub below : (i : ℕ) → i < k → Marks (under i) (Under k i)

  -- before the first turn: zeros
  pub risen_start : (fit under : ℕ → ℕ) → ((i : ℕ) → i < X.tree.size → (fit i ≡ 0) × (under i ≡ 0)) → Risen X.tree.size fit under
  risen_start fit under z = record {
    fits = λ i h l. absurd (omega arith);
    children = λ i l. rw (z i l).0 (marks_none (AtChild X.tree.size i) (λ s w. omega (arith, w.1, w.2.here)));
    below = λ i l. rw (z i l).1 (marks_none (Under X.tree.size i) (λ s w. omega (arith, w.1, w.2.here)));
  }

  -- what of a row's fits goes up along a child edge
  pub along : (i f a : ℕ) → X.axis i ≡ a → Marks f (Fits i) → Marks (mask_for a f 0) (λ s. (X.axis i ≡ 0) × Fits i s)
  along i f zero e m = marks_to f (Fits i) (λ s. (X.axis i ≡ 0) × Fits i s) (λ s w. (e, w)) (λ s w. w.1) m
  along i f (suc a) e m = marks_none (λ s. (X.axis i ≡ 0) × Fits i s) (λ s w. omega (arith, w.0))

  module _ (v : Ordered X.tree) where
    -- a row's children are later than the row
    later : (i j : ℕ) → Child X.tree i j → suc i ≤ j
    later i j c = below_lt v (child c)

    module _ (i p f g : ℕ) (fit under fit' under' : ℕ → ℕ) (c : Child X.tree p i) (u : Risen (suc i) fit under) (m : Marks f (Fits i))
        (mg : Marks g (λ s. (X.axis i ≡ 0) × Fits i s)) (h : Turned i p f g (under i) fit under fit' under') where
      earlier : p < i
      earlier = later p i c

      -- what the parent gathers
      at_parent : Marks (fit' p) (AtChild i p)
      at_parent = rw h.up (marks_to (bit_or (fit p) g) (λ s. AtChild (suc i) p s ⊎ ((X.axis i ≡ 0) × Fits i s)) (AtChild i p)
          (λ s w. ⊎_elim (λ x. (x.0, omega (arith, x.1), x.2, x.3, x.4)) (λ x. (i, omega arith, c, x.0, x.1)) w)
          (λ s w. ⊎_elim
          (λ e. inr (subst (λ (j : ℕ). (X.axis j ≡ 0) × Fits j s) (sym e) (w.3, w.4)))
          (λ l. inl (w.0, l, w.2, w.3, w.4)) (eq-or-lt_of_le w.1))
          (marks_or (fit p) g (AtChild (suc i) p) (λ s. (X.axis i ≡ 0) × Fits i s) (u.children p (omega (arith, earlier))) mg))

      under_parent : Marks (under' p) (Under i p)
      under_parent = rw h.up_under (marks_to (bit_or (bit_or (under p) f) (under i)) (λ s. (Under (suc i) p s ⊎ Fits i s) ⊎ Under (suc i) i s) (Under i p)
          (λ s w. ⊎_elim
          (λ x. ⊎_elim (λ y. (y.0, omega (arith, y.1), y.2, y.3)) (λ y. (i, omega arith, c, (i, inl refl, y))) x)
          (λ x. (i, omega arith, c, (x.3.0, inr (top_below x.2 x.3.1), x.3.2))) w)
          (λ s w. ⊎_elim (λ e. own s w e w.3.1) (λ l. inl (inl (w.0, l, w.2, w.3))) (eq-or-lt_of_le w.1))
          (marks_or (bit_or (under p) f) (under i) (λ s. Under (suc i) p s ⊎ Fits i s) (Under (suc i) i)
          (marks_or (under p) f (Under (suc i) p) (Fits i) (u.below p (omega (arith, earlier))) m) (u.below i (omega arith))))
        where
          -- at or below row i itself
          own : (s : ℕ) (w : Under i p s) → i ≡ w.0 → From X.tree w.0 w.3.0 → (Under (suc i) p s ⊎ Fits i s) ⊎ Under (suc i) i s
          own s w e (inl z) = inl (inr (subst (λ (j : ℕ). Fits j s) (sym (e ∙ z)) w.3.2))
          own s w e (inr b) =
              let r = below_top (subst (λ (j : ℕ). Below X.tree j w.3.0) (sym e) b) in
              inr (r.0, later i r.0 r.1, r.1, (w.3.0, r.2, w.3.2))

      -- a row that is not the parent gathers nothing
      aside : (x j : ℕ) → (x ≡ p → ⊥) → i ≤ j → Child X.tree x j → suc i ≤ j
      aside x j n l k = ⊎_elim (λ e. absurd (n (sym k.up ∙ ap X.tree.parent (sym e) ∙ c.up))) (λ y. y) (eq-or-lt_of_le l)

      other : (x : ℕ) → x < i → (x ≡ p → ⊥) → Marks (fit' x) (AtChild i x) × Marks (under' x) (Under i x)
      other x l n = (
        rw (h.others x l n).0 (marks_to (fit x) (AtChild (suc i) x) (AtChild i x)
            (λ s w. (w.0, omega (arith, w.1), w.2, w.3, w.4)) (λ s w. (w.0, aside x w.0 n w.1 w.2, w.2, w.3, w.4))
            (u.children x (omega arith))),
        rw (h.others x l n).1 (marks_to (under x) (Under (suc i) x) (Under i x)
            (λ s w. (w.0, omega (arith, w.1), w.2, w.3)) (λ s w. (w.0, aside x w.0 n w.1 w.2, w.2, w.3)) (u.below x (omega arith))),
      )

      here : (x : ℕ) → x < i → Marks (fit' x) (AtChild i x) × Marks (under' x) (Under i x)
      here x l = elim (ℕ_discrete x p) [
        | yes e ↦ subst (λ (y : ℕ). Marks (fit' y) (AtChild i y) × Marks (under' y) (Under i y)) (sym e) (at_parent, under_parent)
        | no n ↦ other x l n
      ]

      -- one turn
      pub risen_turn : Risen i fit' under'
      risen_turn = record {
        fits = λ x k l. ⊎_elim (λ e. subst (λ (y : ℕ). Marks (fit' y) (Fits y)) e (rw h.own m))
            (λ y. rw (h.later x y) (u.fits x y l)) (eq-or-lt_of_le k);
        children = λ x l. (here x l).0;
        below = λ x l. (here x l).1;
      }

-- the steps of A go to rows of which `ok` holds, as their axes ask
abbrev row_task : Shape → Rows → (ℕ → ℕ → Type 0) → Task
row_task A X ok = record { tree = A.tree; ok = ok; edge = λ t j i. Goes X (A.axis t) j i }

module _ (A : Shape) (X : Rows) (ok : ℕ → ℕ → Type 0) (Fits : ℕ → ℕ → Type 0) (v : Ordered X.tree)
    (can : (i s : ℕ) → ((s < A.tree.size) × Able (row_task A X ok) s i) ↔ Fits i s) (i : ℕ) (Right : ℕ → Type 0) (right : (s : ℕ) → Right s ↔ ok s i)
    (fit under : ℕ → ℕ) (u : Risen X Fits (suc i) fit under) where
  -- where a child step goes
  next : (t a : ℕ) → bit (mask_for a (fit i) (under i)) t ≡ 1 → (j : ℕ) × Goes X a i j × Able (row_task A X ok) t j
  next t zero w = let r = (u.children i (omega arith)).only t w in (r.0, (r.2, r.3), ((can r.0 t).1 r.4).1)
  next t (suc a) w = let r = (u.below i (omega arith)).only t w in (r.3.0, top_below r.2 r.3.1, ((can r.3.0 t).1 r.3.2).1)

  by_fits : (s : ℕ) → FitsBy A Right (fit i) (under i) s → Fits i s
  by_fits s h = (can i s).0 (
    h.0,
    able ((right s).0 h.1) (λ t k. (next t (A.axis t) (h.2 t k)).0) (λ t k. (next t (A.axis t) (h.2 t k)).1) (λ t k. (next t (A.axis t) (h.2 t k)).2),
  )

  has : (t : ℕ) → t < A.tree.size → (a j : ℕ) → Goes X a i j → Able (row_task A X ok) t j → bit (mask_for a (fit i) (under i)) t ≡ 1
  has t l zero j g a = (u.children i (omega arith)).put t (j, later X Fits v i j g.0, g.0, g.1, (can j t).0 (l, a))
  has t l (suc n) j g a = let b = below_top g in (u.below i (omega arith)).put t (b.0, later X Fits v i b.0 b.1, b.1, (j, b.2, (can j t).0 (l, a)))

  fits_by : (s : ℕ) → Fits i s → FitsBy A Right (fit i) (under i) s
  fits_by s h =
      let a = (can i s).1 h in (
        a.0,
        (right s).1 (able_ok (row_task A X ok) a.1),
        λ t k. let n = able_next (row_task A X ok) a.1 t k in has t k.here (A.axis t) n.0 n.1 n.2,
      )

  -- once a row's children have had their turn its numbers are complete, and the steps found from them are those that fit
  pub risen_fits : (x : ℕ) → Marks x (FitsBy A Right (fit i) (under i)) → Marks x (Fits i)
  risen_fits x m = marks_to x (FitsBy A Right (fit i) (under i)) (Fits i) by_fits fits_by m
