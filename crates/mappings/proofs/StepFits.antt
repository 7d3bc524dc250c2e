-- Which steps of B fit at each step of A: the upward pass over rows with A's steps as rows, in two lists. Assumes nothing.
use Rattle.tables.proofs.Kit.{ℕ, suc, ◌^◌, ◌<◌, ◌≡◌, refl, sym, ap, ◌∙◌, subst, ◌↔◌, Bool, false, List, arith}
use Rattle.tables.proofs.Kit.{ℕ_discrete, T, length, get_or, set, get_or-set_same, get_or-set_other}
use Rattle.tables.specs.{Bits.Marks, Tree.From, Pattern.{Shape, rows_of, ValidShape}}
use Rattle.tables.proofs.{Marks.{marks_to, marks_one, marks_without}, Rules.shape_ordered}
use Rattle.placing.specs.Placement.{LabelFits, Takes, Goes}
use Rattle.placing.proofs.Fit.{Task, Able, fit_able, able_fit}
use Rattle.plan.specs.{Steps.{without, FitsBy}, Rising.{entries}}
use Rattle.plan.proofs.Rising.{Risen, risen_fits}
use Rattle.mappings.specs.Fits.{RightIn, FitsIn, FitTable}

-- the task of mapping B into A: B's output step may only go to A's
abbrev pub map_task : Shape → Shape → Task
map_task B A = record {
  tree = B.tree;
  ok = λ t s. Takes (rows_of A) (B.label t) s × (t ≡ B.output → s ≡ A.output);
  edge = λ t q s. Goes (rows_of A) (B.axis t) q s;
}

module _ (B A : Shape) (vb : ValidShape B) where
  -- a step that fits can be sent child by child, and the other way round
  pub fits_able : (s t : ℕ) → FitsIn B A s t → Able (map_task B A) t s
  fits_able s t h = fit_able (map_task B A) (shape_ordered vb) t s h.by (record {
    at = h.sends.at;
    ok = λ u w. (h.sends.takes u w, λ e. ap h.by e ∙ h.output (subst (From B.tree t) e w));
    edge = h.sends.edge;
  })

  pub able_fits : (s t : ℕ) → t < B.tree.size → Able (map_task B A) t s → FitsIn B A s t
  able_fits s t l a =
      let p = able_fit (map_task B A) (shape_ordered vb) t s l a in
      record {
        here = l;
        by = p.0;
        sends = record { at = p.1.at; takes = λ u w. (p.1.ok u w).0; edge = p.1.edge };
        output = λ w. (p.1.ok B.output w).1 refl;
      }

  -- both together
  can : (s t : ℕ) → ((t < B.tree.size) × Able (map_task B A) t s) ↔ FitsIn B A s t
  can s t = (λ q. able_fits s t q.0 q.1, λ h. (h.here, fits_able s t h))

  -- the steps found from the entries of a step whose children have had their turn are those that fit
  pub step_fits : (va : ValidShape A) (s : ℕ) (last : Bool) (fit under : ℕ → ℕ) → s < A.tree.size → T last ↔ (s ≡ A.output)
      → Risen (rows_of A) (FitsIn B A) (suc s) fit under → (x : ℕ) → Marks x (FitsBy B (RightIn B (A.label s) last) (fit s) (under s)) → Marks x (FitsIn B A s)
  step_fits va s last fit under l out u = risen_fits B (rows_of A) (map_task B A).ok (FitsIn B A) (shape_ordered va) can s (RightIn B (A.label s) last)
      (λ t. (λ q. (record { here = l; fits = q.0 }, λ o. out.0 (q.1 o)), λ q. (q.0.fits, λ o. out.1 (q.1 o)))) fit under u

  -- after the last turn, step 0's
  pub fit_table : (x : ℕ) (fit under : List ℕ) → Risen (rows_of A) (FitsIn B A) 1 (entries fit) (entries under) → Marks x (FitsIn B A 0) → 0 < length fit
      → FitTable B A (set fit 0 x)
  fit_table x fit under u m h s l = elim (ℕ_discrete s 0) [
    | yes e ↦ subst (λ (y : ℕ). Marks (get_or (set fit 0 x) y 0) (FitsIn B A y)) (sym e) (rw (get_or-set_same fit 0 x 0 h) m)
    | no n ↦ rw (get_or-set_other fit 0 s x 0 n) (u.fits s (omega arith) l)
  ]

-- the output step is taken out where it may not go
module _ (B : Shape) (l c d x : ℕ) (m : Marks x (FitsBy B (λ t. LabelFits (B.label t) l) c d)) where
  pub fits_other : (last : Bool) → last ≡ false → Marks (without x (2 ^ B.output)) (FitsBy B (RightIn B l last) c d)
  fits_other last e = marks_to (without x (2 ^ B.output)) (λ t. FitsBy B (λ t. LabelFits (B.label t) l) c d t × (t ≡ B.output → ⊥))
      (FitsBy B (RightIn B l last) c d)
      (λ t q. (q.0.0, (q.0.1, λ o. absurd (q.1 o)), q.0.2))
      (λ t q. ((q.0, q.1.0, q.2), λ o. (rw e at (q.1.1 o))))
      (marks_without x (2 ^ B.output) (FitsBy B (λ t. LabelFits (B.label t) l) c d) (λ t. t ≡ B.output) m (marks_one B.output))
