-- Where something serves, the main paths of the query and of the view have the same labels and axes, as far as the view's goes. Assumes nothing.
use Rattle.tables.proofs.Kit.{ℕ, ◌≤◌, ◌<◌, ◌≡◌, refl, sym, ap, ◌∙◌, subst, ◌⊎◌, inl, inr, ⊎_elim, arith, eq-zero-or-pos, length}
use Rattle.tables.specs.{Tree.{Child, child, From}, Pattern.{Shape, shape_of, ValidShape, ValidPattern}, declared.Pattern.Pattern}
use Rattle.tables.proofs.{Depth.{depth, depth_zero, depth_child}, Rules.shape_ordered, Trees.{parent_lt, from_le, from_trans}}
use Rattle.joining.specs.Join.{renumber, added, join_of}
use Rattle.joining.proofs.{Parts.renumber_low, Joined.{Joined, Pair, pair_of, pair_joined}, Order.{view_from, pair_valid}}
use Rattle.containment.specs.Mapping.{Maps}
use Rattle.containment.proofs.Contained.{contained_iff}
use Rattle.rewriting.specs.{Candidate.{main_path, cut_step}, Rewriting.Serves}
use Rattle.rewriting.proofs.{MainPath.cut_on_path, Depths.{same_labels, child_there}, Serving.{view_depth_to, joint}}

-- s and t are steps of the two main paths, as deep as each other
pub record Level (Q U : Shape) (s t : ℕ) : Type 0 where
  pub query : From Q.tree s Q.output
  pub view : From U.tree t U.output
  pub deep : depth Q.tree s ≡ depth U.tree t

-- the cut step and the view's output step are
pub level_start : {Q U : Shape} → ValidShape Q → ValidShape U → length (main_path U) ≤ length (main_path Q) → (c : ℕ) → c ≡ cut_step Q U → Level Q U c U.output
level_start {Q} {U} vq vu l c e =
    let r = cut_on_path vq vu l in
    subst (λ (x : ℕ). Level Q U x U.output) (sym e) (record { query = r.0; view = inl refl; deep = r.1 })

module _ {Q U : Shape} (vq : ValidShape Q) (vu : ValidShape U) {s t : ℕ} (l : Level Q U s t) where
  pub query_here : s < Q.tree.size
  query_here = omega (arith, from_le (shape_ordered vq) s Q.output l.query, vq.output)

  pub view_here : t < U.tree.size
  view_here = omega (arith, from_le (shape_ordered vu) t U.output l.view, vu.output)

  up : {A : Shape} → ValidShape A → (i : ℕ) → 0 < i → i < A.tree.size → Child A.tree (A.tree.parent i) i
  up v i p h = record { late = p; here = h; up = refl }

  late : 0 < t → 0 < s
  late p = ⊎_elim (λ z. absurd (omega (
    arith,
    l.deep,
    ap (depth Q.tree) z,
    depth_zero Q.tree,
    depth_child (shape_ordered vu) (U.tree.parent t) t (up vu t p view_here),
  )))
      (λ q. q)
      (eq-zero-or-pos s)

  -- above a later step their parents are
  pub level_up : 0 < t → (U.tree.parent t < t) × Level Q U (Q.tree.parent s) (U.tree.parent t)
  level_up p =
      let a = up vq s (late p) query_here in
      let b = up vu t p view_here in (
        parent_lt (shape_ordered vu) t p view_here,
        record {
          query = from_trans (inr (child a)) l.query;
          view = from_trans (inr (child b)) l.view;
          deep = omega (arith, l.deep, depth_child (shape_ordered vq) (Q.tree.parent s) s a, depth_child (shape_ordered vu) (U.tree.parent t) t b);
        },
      )

-- a number that is 0 exactly where another is, both at most 1
axis_same : {a b : ℕ} → (a ≡ 0) ⊎ (a ≡ 1) → (b ≡ 0) ⊎ (b ≡ 1) → (a ≡ 0 → b ≡ 0) → (b ≡ 0 → a ≡ 0) → a ≡ b
axis_same (inl x) y f g = x ∙ sym (f x)
axis_same (inr x) (inl y) f g = g y ∙ sym y
axis_same (inr x) (inr y) f g = x ∙ sym y

module _ (Q U E : Pattern) (vq : ValidPattern Q) (vu : ValidPattern U) (sv : Serves Q U E) {s t : ℕ} (l : Level (shape_of Q) (shape_of U) s t) where
  pair : Pair U E
  pair = pair_of U E sv.joinable

  J : Shape
  J = shape_of (join_of U E)

  e : ℕ
  e = added (shape_of E)

  vj : ValidShape J
  unfolding J
  vj = pair_valid pair

  jj : Joined (shape_of U) (shape_of E) J e
  unfolding J e
  jj = pair_joined pair

  hm : (h : ℕ → ℕ) × Maps (shape_of Q) J h
  unfolding J
  hm = (contained_iff J (shape_of Q) vj vq).0 sv.equal.to

  gm : (g : ℕ → ℕ) × Maps J (shape_of Q) g
  unfolding J
  gm = (contained_iff (shape_of Q) J vq vj).0 sv.equal.back

  th : t < (shape_of U).tree.size
  th = view_here vq vu l

  -- the view's step has its own number in the join
  own : renumber (shape_of U).output e t ≡ t
  own = renumber_low (shape_of U).output e t (from_le (shape_ordered vu) t (shape_of U).output l.view)

  small : t < J.tree.size
  small = omega (arith, jj.size, th)

  above : From J.tree t J.output
  above =
      from_trans
      (subst (λ (x : ℕ). From J.tree t x) (renumber_low (shape_of U).output e (shape_of U).output (omega arith))
      (subst (λ (x : ℕ). From J.tree x (renumber (shape_of U).output e (shape_of U).output)) own
      (view_from jj vu.output t (shape_of U).output l.view)))
      (joint jj vu.output (shape_ordered vu) (shape_ordered vj) (shape_ordered pair.tail) pair.tail.output)

  deep : depth (shape_of Q).tree s ≡ depth J.tree t
  deep = l.deep ∙ sym (view_depth_to jj vu.output (shape_ordered vu) (shape_ordered vj) t t (omega arith) th) ∙ ap (depth J.tree) own

  -- the two steps have one label
  pub labels_agree : (shape_of Q).label s ≡ (shape_of U).label t
  labels_agree =
      same_labels (shape_ordered vq) (shape_ordered vj) vq.output hm.1 gm.1 s t small above l.query deep
      ∙ ap J.label (sym own) ∙ jj.view_label t th

  -- and one axis
  pub axes_agree : (shape_of Q).axis s ≡ (shape_of U).axis t
  axes_agree =
      axis_same (vq.steps s (query_here vq vu l)).axis (vj.steps t small).axis
      (child_there (shape_ordered vj) (shape_ordered vq) vj.output gm.1 hm.1 t s (query_here vq vu l) l.query above (sym deep))
      (child_there (shape_ordered vq) (shape_ordered vj) vq.output hm.1 gm.1 s t small above l.query deep)
      ∙ ap J.axis (sym own) ∙ jj.view_axis t th
