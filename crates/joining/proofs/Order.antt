-- A join of two valid patterns that is not too large is a valid pattern, and its table is as tables are handed out. Assumes nothing.
use Rattle.tables.proofs.Kit.{ℕ, zero, suc, ◌+◌, ◌≤◌, ◌<◌, ◌≡◌, refl, sym, ap, ◌∙◌, subst, subst₂, ◌⊎◌, inl, inr, ⊎_elim, arith, dec_lt, ℕ_discrete}
use Rattle.tables.specs.Tree.{Child, Below, child, under, From, Hangs, IsLabel}
use Rattle.tables.specs.{Pattern.{Shape, shape_of, ValidShape, ValidPattern, Clean}, declared.Pattern.Pattern}
use Rattle.tables.proofs.{Trees.{Ordered, from_trans, from_root}, Rules.{shape_ordered, pattern_of_clean}}
use Rattle.joining.specs.Join.{renumber, join_shape, join_of, Joinable}
use Rattle.joining.proofs.Parts.{renumber_low, renumber_high}
use Rattle.joining.proofs.Joined.{Joined, Whence, view, tail, whence, renumber_zero, view_child, tail_child, output_small, Pair, pair_of, pair_joined}

module _ {U E J : Shape} {e : ℕ} (j : Joined U E J e) (lo : U.output < U.tree.size) where
  -- what is below in the view is below in the join
  pub view_below : {a b : ℕ} → Below U.tree a b → Below J.tree (renumber U.output e a) (renumber U.output e b)
  view_below (child c) = child (view_child j lo c)
  view_below (under c b) = under (view_child j lo c) (view_below b)

  -- and so for the tail
  pub tail_below : {a b : ℕ} → Below E.tree a b → Below J.tree (U.output + a) (U.output + b)
  tail_below (child c) = child (tail_child j lo c)
  tail_below (under c b) = under (tail_child j lo c) (tail_below b)

  -- the same for a step and itself
  pub view_from : (a b : ℕ) → From U.tree a b → From J.tree (renumber U.output e a) (renumber U.output e b)
  view_from a b w = ⊎_elim (λ h. inl (ap (renumber U.output e) h)) (λ r. inr (view_below r)) w

  pub tail_from : (a b : ℕ) → From E.tree a b → From J.tree (U.output + a) (U.output + b)
  tail_from a b w = ⊎_elim (λ h. inl (ap (λ x. U.output + x) h)) (λ r. inr (tail_below r)) w

  -- the step before a view's step, in the join, is the view's step before it or below that
  before_view : Ordered E.tree → (s i : ℕ) → suc i ≡ renumber U.output e (suc s) → From J.tree (renumber U.output e s) i
  before_view ve s i x = go (ℕ_discrete s U.output) (dec_lt U.output s)
    where
      go : Dec (s ≡ U.output) → Dec (U.output < s) → From J.tree (renumber U.output e s) i
      go (yes z) d = subst₂ (From J.tree) {x = U.output + 0} (omega (arith, renumber_low U.output e s (omega arith)))
          (omega (arith, renumber_high U.output e (suc s) (omega arith)))
          (tail_from 0 e (from_root ve e (omega (arith, j.more))))
      go (no z) (yes d) = inl (omega (arith, renumber_high U.output e (suc s) (omega arith), renumber_high U.output e s d))
      go (no z) (no d) = inl (omega (arith, renumber_low U.output e (suc s) (omega arith), renumber_low U.output e s (omega arith)))

  -- every step of a join hangs right
  pub join_hangs : Ordered U.tree → Ordered E.tree → (root u : ℕ) → U.tree.parent 0 ≡ root → u < J.tree.size → Hangs J.tree root u
  join_hangs vu ve root zero r l = j.root ∙ r
  join_hangs vu ve root (suc i) r l = go (whence j lo (suc i) l)
    where
      go : Whence U E e (suc i) → From J.tree (J.tree.parent (suc i)) i
      go (view zero h x) = absurd (omega (arith, renumber_zero j lo))
      go (view (suc s) h x) =
          let d : Child U.tree (U.tree.parent (suc s)) (suc s) = record { late = omega arith; here = h; up = refl } in
          let y : J.tree.parent (suc i) ≡ renumber U.output e (U.tree.parent (suc s)) = ap J.tree.parent x ∙ j.view_up (suc s)
          (U.tree.parent (suc s)) d in
          rw y (from_trans (view_from (U.tree.parent (suc s)) s (vu.order s h)) (before_view ve s i x))
      go (tail zero m h x) = absurd (omega arith)
      go (tail (suc t) m h x) =
          let d : Child E.tree (E.tree.parent (suc t)) (suc t) = record { late = m; here = h; up = refl } in
          let y : J.tree.parent (suc i) ≡ U.output + E.tree.parent (suc t) = ap J.tree.parent x ∙ j.tail_up (suc t) (E.tree.parent (suc t)) d in
          subst₂ (From J.tree) (sym y) (omega arith) (tail_from (E.tree.parent (suc t)) t (ve.order t h))

  -- what the rules ask of every step's axis and label holds of the join's
  join_axis : ValidShape U → ValidShape E → (u : ℕ) → Whence U E e u → (J.axis u ≡ 0) ⊎ (J.axis u ≡ 1)
  join_axis vu ve u (view s l x) = rw (ap J.axis x ∙ j.view_axis s l) (vu.steps s l).axis
  join_axis vu ve u (tail t m l x) = rw (ap J.axis x ∙ j.tail_axis t m l) (ve.steps t l).axis

  join_label : ValidShape U → ValidShape E → (u : ℕ) → Whence U E e u → IsLabel (J.label u)
  join_label vu ve u (view s l x) = subst IsLabel (sym (ap J.label x ∙ j.view_label s l)) (vu.steps s l).label
  join_label vu ve u (tail t m l x) = subst IsLabel (sym (ap J.label x ∙ j.tail_label t m l)) (ve.steps t l).label

  -- a join of at most 64 steps obeys the rules
  pub shape_join_valid : ValidShape U → ValidShape E → U.tree.size + e ≤ 64 → ValidShape J
  shape_join_valid vu ve few = record {
    some = omega (arith, j.size);
    few = omega (arith, j.size);
    steps = λ u l. record {
      hangs = join_hangs (shape_ordered vu) (shape_ordered ve) 255 u (vu.steps 0 vu.some).hangs l;
      axis = join_axis vu ve u (whence j lo u l);
      label = join_label vu ve u (whence j lo u l);
    };
    output = output_small j lo ve.output;
  }

-- the same by what joining checks
pub pair_valid : {U E : Pattern} → Pair U E → ValidPattern (join_of U E)
pair_valid p = shape_join_valid (pair_joined p) p.view.output p.view p.tail p.few

-- the join is a valid pattern
pub join_valid : (U E : Pattern) → Joinable U E → ValidPattern (join_of U E)
join_valid U E w = pair_valid (pair_of U E w)

-- its table is zero past its steps
pub join_clean : (U E : Pattern) → Clean (join_of U E)
unfolding join_of
join_clean U E = pattern_of_clean (join_shape (shape_of U) (shape_of E))
