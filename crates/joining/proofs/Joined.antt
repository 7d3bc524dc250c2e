-- What the join of a view U and a compensation E is, step by step. All that is proved of joins is proved of `Joined`, and the table that joining gives has it.
-- Assumes nothing.
use Rattle.tables.proofs.Kit.{ℕ, suc, ◌+◌, ◌-◌, ◌≤◌, ◌<◌, ◌≡◌, refl, sym, ap, ◌∙◌, arith, dec_lt, ℕ_discrete}
use Rattle.tables.specs.{Tree.Child, Pattern.{Shape, shape_of, ValidPattern}, declared.Pattern.Pattern}
use Rattle.tables.proofs.{Trees.{Ordered, parent_lt}, Rules.{Agree, pattern_of_shape, shape_ordered}}
use Rattle.joining.specs.Join.{renumber, added, join_shape, join_of, Joinable}
use Rattle.joining.proofs.Parts.{renumber_low, renumber_high, renumber_cases, part_front, part_middle, part_rest, both, both_view, both_late}

-- J is the join of U and E, where E has e steps past its step 0
pub record Joined (U E J : Shape) (e : ℕ) : Type 0 where
  pub more : E.tree.size ≡ suc e
  pub size : J.tree.size ≡ U.tree.size + e
  pub output : J.output ≡ U.output + E.output
  pub root : J.tree.parent 0 ≡ U.tree.parent 0
  pub view_label : (s : ℕ) → s < U.tree.size → J.label (renumber U.output e s) ≡ U.label s
  pub view_axis : (s : ℕ) → s < U.tree.size → J.axis (renumber U.output e s) ≡ U.axis s
  pub view_up : (s q : ℕ) → Child U.tree q s → J.tree.parent (renumber U.output e s) ≡ renumber U.output e q
  pub tail_label : (t : ℕ) → 0 < t → t < E.tree.size → J.label (U.output + t) ≡ E.label t
  pub tail_axis : (t : ℕ) → 0 < t → t < E.tree.size → J.axis (U.output + t) ≡ E.axis t
  pub tail_up : (t q : ℕ) → Child E.tree q t → J.tree.parent (U.output + t) ≡ U.output + q

-- where a step of the join comes from
pub data Whence (U E : Shape) (e u : ℕ) : Type 0 where
  view : (s : ℕ) → s < U.tree.size → u ≡ renumber U.output e s → Whence U E e u
  tail : (t : ℕ) → 0 < t → t < E.tree.size → u ≡ U.output + t → Whence U E e u

module _ {U E J : Shape} {e : ℕ} (j : Joined U E J e) (lo : U.output < U.tree.size) where
  -- every step of the join comes from the view or from the tail
  pub whence : (u : ℕ) → u < J.tree.size → Whence U E e u
  whence u l = go (dec_lt U.output u) (dec_lt (U.output + e) u)
    where
      go : Dec (U.output < u) → Dec (U.output + e < u) → Whence U E e u
      go (no a) b = view u (omega arith) (sym (renumber_low U.output e u (omega arith)))
      go (yes a) (no b) = tail (u - U.output) (omega arith) (omega (arith, j.more)) (omega arith)
      go (yes a) (yes b) = view (u - e) (omega (arith, j.size)) (omega (arith, renumber_high U.output e (u - e) (omega arith)))

  -- a step of the view has a number in the join, 0 exactly where it is step 0
  pub renumber_small : (s : ℕ) → s < U.tree.size → renumber U.output e s < J.tree.size
  renumber_small s l = renumber_cases U.output e s (λ a x. omega (arith, j.size)) (λ a x. omega (arith, j.size))

  pub renumber_late : (s : ℕ) → 0 < s → 0 < renumber U.output e s
  renumber_late s l = renumber_cases U.output e s (λ a x. omega arith) (λ a x. omega arith)

  pub renumber_zero : renumber U.output e 0 ≡ 0
  renumber_zero = renumber_low U.output e 0 (omega arith)

  pub late_renumber : (s : ℕ) → 0 < renumber U.output e s → 0 < s
  late_renumber s l = renumber_cases U.output e s (λ a x. omega arith) (λ a x. omega arith)

  -- a child in the view or in the tail is a child in the join
  pub view_child : {q s : ℕ} → Child U.tree q s → Child J.tree (renumber U.output e q) (renumber U.output e s)
  view_child {q} {s} c = record { late = renumber_late s c.late; here = renumber_small s c.here; up = j.view_up s q c }

  pub tail_child : {q t : ℕ} → Child E.tree q t → Child J.tree (U.output + q) (U.output + t)
  tail_child {q} {t} c = record { late = omega (arith, c.late); here = omega (arith, c.here, j.size, j.more); up = j.tail_up t q c }

  -- step 0 of the join is the view's
  pub first_axis : J.axis 0 ≡ U.axis 0
  first_axis = ap J.axis (sym renumber_zero) ∙ j.view_axis 0 (omega arith)

  pub first_label : J.label 0 ≡ U.label 0
  first_label = ap J.label (sym renumber_zero) ∙ j.view_label 0 (omega arith)

  -- where the two labels are equal, the view's output step stands for the tail's step 0
  pub tail_label_all : U.label U.output ≡ E.label 0 → (t : ℕ) → t < E.tree.size → J.label (U.output + t) ≡ E.label t
  tail_label_all same t l = go (ℕ_discrete t 0)
    where
      go : Dec (t ≡ 0) → J.label (U.output + t) ≡ E.label t
      go (yes z) =
          let h : U.output + t ≡ renumber U.output e U.output = omega (arith, renumber_low U.output e U.output (omega arith)) in
          ap J.label h ∙ j.view_label U.output lo ∙ same ∙ ap E.label (sym z)
      go (no z) = j.tail_label t (omega arith) l

  -- the output step of the join has the label of the tail's
  pub output_label : U.label U.output ≡ E.label 0 → E.output < E.tree.size → J.label J.output ≡ E.label E.output
  output_label same l = ap J.label j.output ∙ tail_label_all same E.output l

  -- and is one of its steps
  pub output_small : E.output < E.tree.size → J.output < J.tree.size
  output_small l = omega (arith, j.output, j.size, j.more)

-- a shape of the same table is the same join
pub joined_agree : {U E J K : Shape} {e : ℕ} → U.output < U.tree.size → Agree K J → Joined U E J e → Joined U E K e
joined_agree {U} {E} {J} {K} {e} lo a j = record {
  more = j.more;
  size = a.size ∙ j.size;
  output = a.output ∙ j.output;
  root = a.parent 0 (omega (arith, a.size, j.size)) ∙ j.root;
  view_label = λ s l. a.label (renumber U.output e s) (in_view s l) ∙ j.view_label s l;
  view_axis = λ s l. a.axis (renumber U.output e s) (in_view s l) ∙ j.view_axis s l;
  view_up = λ s q c. a.parent (renumber U.output e s) (in_view s c.here) ∙ j.view_up s q c;
  tail_label = λ t p l. a.label (U.output + t) (in_tail t l) ∙ j.tail_label t p l;
  tail_axis = λ t p l. a.axis (U.output + t) (in_tail t l) ∙ j.tail_axis t p l;
  tail_up = λ t q c. a.parent (U.output + t) (in_tail t c.here) ∙ j.tail_up t q c;
}
  where
    in_view : (s : ℕ) → s < U.tree.size → renumber U.output e s < K.tree.size
    in_view s l = omega (arith, renumber_small j lo s l, a.size)

    in_tail : (t : ℕ) → t < E.tree.size → U.output + t < K.tree.size
    in_tail t l = omega (arith, a.size, j.size, j.more)

-- the joined shape is the join
shape_joined : {U E : Shape} → Ordered U.tree → 0 < E.tree.size → Joined U E (join_shape U E) (added E)
unfolding join_shape both
shape_joined {U} {E} v p = record {
  more = omega arith;
  size = refl;
  output = refl;
  root = part_front o e 0 (f 0) (g 0) (h 0) (omega arith);
  view_label = λ s l. both_view o e U.label E.label s (renumber o e s) refl;
  view_axis = λ s l. both_view o e U.axis E.axis s (renumber o e s) refl;
  view_up = λ s q c. renumber_cases o e s
      (λ l k. part_front o e (renumber o e s) (f (renumber o e s)) (g (renumber o e s)) (h (renumber o e s)) (omega arith) ∙ ap f k ∙ c.up
      ∙ sym (renumber_low o e q (omega (arith, parent_lt v s c.late c.here, c.up))))
      (λ l k. part_rest o e (renumber o e s) (f (renumber o e s)) (g (renumber o e s)) (h (renumber o e s)) (omega arith)
      ∙ ap (λ x. renumber o e (f x)) (omega arith) ∙ ap (renumber o e) c.up);
  tail_label = λ t p l. both_late o e U.label E.label t p (omega arith);
  tail_axis = λ t p l. both_late o e U.axis E.axis t p (omega arith);
  tail_up = λ t q c. part_middle o e (o + t) (f (o + t)) (g (o + t)) (h (o + t)) (omega (arith, c.late)) (omega (arith, c.here))
      ∙ ap (λ x. o + E.tree.parent x) (omega arith) ∙ ap (λ x. o + x) c.up;
}
  where
    o : ℕ
    o = U.output

    e : ℕ
    e = added E

    f : ℕ → ℕ
    f u = U.tree.parent u

    g : ℕ → ℕ
    g u = o + E.tree.parent (u - o)

    h : ℕ → ℕ
    h u = renumber o e (U.tree.parent (u - e))

-- what joining checks, by name
pub record Pair (U E : Pattern) : Type 0 where
  pub view : ValidPattern U
  pub tail : ValidPattern E
  pub start : (shape_of E).axis 0 ≡ 0
  pub same : (shape_of U).label (shape_of U).output ≡ (shape_of E).label 0
  pub few : (shape_of U).tree.size + added (shape_of E) ≤ 64

-- joining accepts exactly such a pair
pub pair_of : (U E : Pattern) → Joinable U E → Pair U E
pair_of U E w = record { view = w.0; tail = w.1.0; start = w.1.1.0; same = w.1.1.1.0; few = w.1.1.1.1.0 }

pub pair_joinable : {U E : Pattern} → Pair U E → Joinable U E
pair_joinable p = (p.view, (p.tail, (p.start, (p.same, (p.few, tt)))))

-- the table of such a pair is the join
pub pair_joined : {U E : Pattern} → Pair U E → Joined (shape_of U) (shape_of E) (shape_of (join_of U E)) (added (shape_of E))
unfolding join_of
pair_joined {U} {E} p = joined_agree p.view.output (pattern_of_shape (join_shape (shape_of U) (shape_of E)))
    (shape_joined (shape_ordered p.view) p.tail.some)

-- the table that joining gives is the join
pub joined : (U E : Pattern) → Joinable U E → Joined (shape_of U) (shape_of E) (shape_of (join_of U E)) (added (shape_of E))
joined U E w = pair_joined (pair_of U E w)
