-- A join can be sent exactly where its view and its tail can, the tail's step 0 at the row of the view's output step. Assumes nothing.
use Rattle.tables.proofs.Kit.{ℕ, ◌+◌, ◌<◌, ◌≡◌, refl, sym, ap, ◌∙◌, subst, subst₂, arith}
use Rattle.tables.specs.{Tree.{Child, Rows}, Pattern.Shape}
use Rattle.tables.proofs.Trees.{Ordered, parent_lt}
use Rattle.placing.specs.Placement.{Takes, Goes, Sends, Reaches}
use Rattle.joining.specs.Join.{renumber}
use Rattle.joining.proofs.{Parts.{renumber_low, both, both_view, both_tail}, Joined.{Joined, Whence, view, tail, whence}}
use Rattle.joining.proofs.Joined.{renumber_small, renumber_zero, late_renumber, view_child, tail_child, first_axis, tail_label_all}

module _ {U E J : Shape} {e : ℕ} (j : Joined U E J e) (lo : U.output < U.tree.size) (same : U.label U.output ≡ E.label 0) (X : Rows) where
  -- the view's part of a sending
  pub split_view : {f : ℕ → ℕ} → Sends J X f → Sends U X (λ s. f (renumber U.output e s))
  split_view {f} p = record {
    takes = λ s l. subst (λ (n : ℕ). Takes X n (f (r s))) (j.view_label s l) (p.takes (r s) (renumber_small j lo s l));
    edge = λ s q c. subst (λ (a : ℕ). Goes X a (f (r q)) (f (r s))) (j.view_axis s c.here) (p.edge (r s) (r q) (view_child j lo c));
  }
    where
      r : ℕ → ℕ
      r s = renumber U.output e s

  -- the tail's part
  pub split_tail : {f : ℕ → ℕ} → Sends J X f → Sends E X (λ t. f (U.output + t))
  split_tail {f} p = record {
    takes = λ t l. subst (λ (n : ℕ). Takes X n (f (o + t))) (tail_label_all j lo same t l) (p.takes (o + t) (omega (arith, j.size, j.more)));
    edge = λ t q c. subst (λ (a : ℕ). Goes X a (f (o + q)) (f (o + t))) (j.tail_axis t c.late c.here) (p.edge (o + t) (o + q) (tail_child j lo c));
  }
    where
      o : ℕ
      o = U.output

  -- the two parts together
  pub glue : {f g : ℕ → ℕ} → Ordered E.tree → Sends U X f → Sends E X g → f U.output ≡ g 0 → Sends J X (both U.output e f g)
  glue {f} {g} ve p k z = record { takes = λ u l. takes u (whence j lo u l); edge = λ u q c. edge u q c (whence j lo u c.here) }
    where
      h : ℕ → ℕ
      h = both U.output e f g

      at_view : (s u : ℕ) → u ≡ renumber U.output e s → h u ≡ f s
      at_view s u x = both_view U.output e f g s u x

      at_tail : (t u : ℕ) → t < E.tree.size → u ≡ U.output + t → h u ≡ g t
      at_tail t u l x = ap h x ∙ both_tail U.output e f g z t (omega (arith, j.more))

      takes : (u : ℕ) → Whence U E e u → Takes X (J.label u) (h u)
      takes u (view s l x) = subst₂ (Takes X) (sym (ap J.label x ∙ j.view_label s l)) (sym (at_view s u x)) (p.takes s l)
      takes u (tail t m l x) = subst₂ (Takes X) (sym (ap J.label x ∙ j.tail_label t m l)) (sym (at_tail t u l x)) (k.takes t l)

      edge : (u q : ℕ) → Child J.tree q u → Whence U E e u → Goes X (J.axis u) (h q) (h u)
      edge u q c (view s l x) =
          let d : Child U.tree (U.tree.parent s) s = record { late = late_renumber j lo s (omega (arith, c.late)); here = l; up = refl } in
          let y : q ≡ renumber U.output e (U.tree.parent s) = sym c.up ∙ ap J.tree.parent x ∙ j.view_up s (U.tree.parent s) d in
          rw (ap J.axis x ∙ j.view_axis s l, at_view (U.tree.parent s) q y, at_view s u x) (p.edge s (U.tree.parent s) d)
      edge u q c (tail t m l x) =
          let d : Child E.tree (E.tree.parent t) t = record { late = m; here = l; up = refl } in
          let y : q ≡ U.output + E.tree.parent t = sym c.up ∙ ap J.tree.parent x ∙ j.tail_up t (E.tree.parent t) d in
          let b : E.tree.parent t < E.tree.size = omega (arith, parent_lt ve t m l) in
          rw (ap J.axis x ∙ j.tail_axis t m l, at_tail (E.tree.parent t) q b y, at_tail t u l x) (k.edge t (E.tree.parent t) d)

  module _ (First : ℕ → ℕ → Type 0) where
    -- a row that the join reaches is one that the tail reaches from a row that the view reaches
    pub join_split : (i : ℕ) → Reaches J X (First (J.axis 0)) J.output i
        → (k : ℕ) × Reaches U X (First (U.axis 0)) U.output k × Reaches E X (λ x. x ≡ k) E.output i
    join_split i w =
        let f : ℕ → ℕ = w.by in (
          f U.output,
          record {
            by = λ s. f (renumber U.output e s);
            sends = split_view w.sends;
            first = subst₂ First (first_axis j lo) (ap f (sym (renumber_zero j lo))) w.first;
            at = ap f (renumber_low U.output e U.output (omega arith));
          },
          record { by = λ t. f (U.output + t); sends = split_tail w.sends; first = ap f (omega arith); at = ap f (sym j.output) ∙ w.at },
        )

    -- and the other way
    pub join_glue : Ordered E.tree → E.output < E.tree.size → (i k : ℕ)
        → Reaches U X (First (U.axis 0)) U.output k → Reaches E X (λ x. x ≡ k) E.output i → Reaches J X (First (J.axis 0)) J.output i
    join_glue ve le i k a b =
        let z : a.by U.output ≡ b.by 0 = a.at ∙ sym b.first in
        let h : ℕ → ℕ = both U.output e a.by b.by in
        record {
          by = h;
          sends = glue ve a.sends b.sends z;
          first = subst₂ First (sym (first_axis j lo)) (sym (both_view U.output e a.by b.by 0 0 (sym (renumber_zero j lo)))) a.first;
          at = ap h j.output ∙ both_tail U.output e a.by b.by z E.output (omega (arith, j.more)) ∙ b.at;
        }
