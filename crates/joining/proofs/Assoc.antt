-- Joining three patterns either way is accepted or not alike, and gives one table. Assumes nothing.
use Rattle.tables.proofs.Kit.{ℕ, ◌+◌, ◌<◌, ◌≡◌, refl, sym, ap, ◌∙◌, ◌⊎◌, ⊎_elim, ◌↔◌, arith, eq-zero-or-pos}
use Rattle.tables.specs.{Tree.Child, Pattern.Shape, declared.Pattern.Pattern}
use Rattle.tables.proofs.Rules.{Agree, pattern_of_agree}
use Rattle.joining.specs.Join.{renumber, join_of, Joinable}
use Rattle.joining.proofs.Parts.{renumber_low, renumber_high, renumber_cases}
use Rattle.joining.proofs.Joined.{Joined, Whence, view, tail, whence, renumber_small, renumber_late, late_renumber, view_child, tail_child, first_axis}
use Rattle.joining.proofs.{Joined.{first_label, output_label, output_small, Pair, pair_of, pair_joinable, pair_joined}, Order.{pair_valid, join_clean}}

-- a column of a join: the view's entries and the tail's
record Column (U E : Shape) (e : ℕ) (ku ke kj : ℕ → ℕ) : Type 0 where
  old : (s : ℕ) → s < U.tree.size → kj (renumber U.output e s) ≡ ku s
  new : (t : ℕ) → 0 < t → t < E.tree.size → kj (U.output + t) ≡ ke t

-- of its labels
labels : {U E J : Shape} {e : ℕ} → Joined U E J e → Column U E e U.label E.label J.label
labels j = record { old = j.view_label; new = j.tail_label }

-- of its axes
axes : {U E J : Shape} {e : ℕ} → Joined U E J e → Column U E e U.axis E.axis J.axis
axes j = record { old = j.view_axis; new = j.tail_axis }

module _ {A B C AB BC L R : Shape} {b c d : ℕ} (ab : Joined A B AB b) (l : Joined AB C L c) (bc : Joined B C BC c) (r : Joined A BC R d)
    (la : A.output < A.tree.size) (lb : B.output < B.tree.size) where
  -- the output step of A and B joined is one of its steps
  outs : AB.output < AB.tree.size
  outs = output_small ab la lb

  -- the steps that B and C joined adds
  sums : d ≡ b + c
  sums = omega (arith, r.more, bc.size, ab.more)

  -- the number of a step of A each way round
  of_a : (s : ℕ) → renumber AB.output c (renumber A.output b s) ≡ renumber A.output d s
  of_a s = renumber_cases A.output b s
      (λ h x. omega (arith, ap (renumber AB.output c) x, renumber_low AB.output c s (omega (arith, ab.output)), renumber_low A.output d s h))
      (λ h x. omega (
        arith,
        ap (renumber AB.output c) x,
        renumber_high AB.output c (s + b) (omega (arith, ab.output, ab.more)),
        renumber_high A.output d s h,
        sums,
      ))

  -- and of a step of B
  of_b : (t : ℕ) → renumber AB.output c (A.output + t) ≡ A.output + renumber B.output c t
  of_b t = renumber_cases B.output c t (λ h x. omega (arith, renumber_low AB.output c (A.output + t) (omega (arith, ab.output))))
      (λ h x. omega (arith, renumber_high AB.output c (A.output + t) (omega (arith, ab.output))))

  -- a step of the whole comes from A, B or C
  data Origin (u : ℕ) : Type 0 where
    from_a : (s : ℕ) → s < A.tree.size → u ≡ renumber A.output d s → u ≡ renumber AB.output c (renumber A.output b s) → Origin u
    from_b : (t : ℕ) → 0 < t → t < B.tree.size → u ≡ A.output + renumber B.output c t → u ≡ renumber AB.output c (A.output + t) → Origin u
    from_c : (t : ℕ) → 0 < t → t < C.tree.size → u ≡ AB.output + t → Origin u

  -- and each step has such an origin
  origin : (u : ℕ) → u < L.tree.size → Origin u
  origin u h = go (whence l outs u h)
    where
      inner : (s : ℕ) → u ≡ renumber AB.output c s → Whence A B b s → Origin u
      inner s x (view a m y) = from_a a m (x ∙ ap (renumber AB.output c) y ∙ of_a a) (x ∙ ap (renumber AB.output c) y)
      inner s x (tail t p m y) = from_b t p m (x ∙ ap (renumber AB.output c) y ∙ of_b t) (x ∙ ap (renumber AB.output c) y)

      go : Whence AB C c u → Origin u
      go (view s m x) = inner s x (whence ab la s m)
      go (tail t p m x) = from_c t p m x

  -- a column is the same both ways
  column_same : {ka kb kc kab kbc kl kr : ℕ → ℕ} → Column A B b ka kb kab → Column AB C c kab kc kl → Column B C c kb kc kbc → Column A BC d ka kbc kr
      → (u : ℕ) → Origin u → kl u ≡ kr u
  column_same {kl = kl} {kr = kr} w x y z u (from_a s m e f) = ap kl f ∙ x.old (renumber A.output b s) (renumber_small ab la s m) ∙ w.old s m ∙ sym
      (ap kr e ∙ z.old s m)
  column_same {kl = kl} {kr = kr} w x y z u (from_b t p m e f) =
      ap kl f ∙ x.old (A.output + t) (omega (arith, ab.size, ab.more)) ∙ w.new t p m
      ∙ sym (ap kr e ∙ z.new (renumber B.output c t) (renumber_late bc lb t p) (renumber_small bc lb t m) ∙ y.old t m)
  column_same {kl = kl} {kr = kr} w x y z u (from_c t p m e) =
      let f : u ≡ A.output + (B.output + t) = omega (arith, ab.output) in
      ap kl e ∙ x.new t p m ∙ sym (ap kr f ∙ z.new (B.output + t) (omega arith) (omega (arith, bc.size, bc.more)) ∙ y.new t p m)

  -- and so are the parents
  parent_same : (u : ℕ) → 0 < u → Origin u → L.tree.parent u ≡ R.tree.parent u
  parent_same u h (from_a s m e f) =
      let k : Child A.tree (A.tree.parent s) s = record {
        late = late_renumber ab la s (late_renumber l outs (renumber A.output b s) (omega arith));
        here = m;
        up = refl;
      } in
      ap L.tree.parent f ∙ l.view_up (renumber A.output b s) (renumber A.output b (A.tree.parent s)) (view_child ab la k)
      ∙ of_a (A.tree.parent s) ∙ sym (ap R.tree.parent e ∙ r.view_up s (A.tree.parent s) k)
  parent_same u h (from_b t p m e f) =
      let k : Child B.tree (B.tree.parent t) t = record { late = p; here = m; up = refl } in
      ap L.tree.parent f ∙ l.view_up (A.output + t) (A.output + B.tree.parent t) (tail_child ab la k)
      ∙ of_b (B.tree.parent t) ∙ sym (ap R.tree.parent e ∙ r.tail_up (renumber B.output c t) (renumber B.output c (B.tree.parent t))
      (view_child bc lb k))
  parent_same u h (from_c t p m e) =
      let k : Child C.tree (C.tree.parent t) t = record { late = p; here = m; up = refl } in
      let f : u ≡ A.output + (B.output + t) = omega (arith, ab.output) in
      let g : AB.output + C.tree.parent t ≡ A.output + (B.output + C.tree.parent t) = omega (arith, ab.output) in
      ap L.tree.parent e ∙ l.tail_up t (C.tree.parent t) k
      ∙ g ∙ sym (ap R.tree.parent f ∙ r.tail_up (B.output + t) (B.output + C.tree.parent t) (tail_child bc lb k))

  -- three patterns joined either way agree
  pub joined_assoc : Agree L R
  joined_assoc = record {
    size = omega (arith, l.size, ab.size, r.size, sums);
    output = omega (arith, l.output, ab.output, r.output, bc.output);
    parent = λ u h. ⊎_elim (λ z. ap L.tree.parent z ∙ l.root ∙ ab.root ∙ sym (ap R.tree.parent z ∙ r.root))
        (λ p. parent_same u p (origin u h)) (eq-zero-or-pos u);
    axis = λ u h. column_same (axes ab) (axes l) (axes bc) (axes r) u (origin u h);
    label = λ u h. column_same (labels ab) (labels l) (labels bc) (labels r) u (origin u h);
  }

-- what makes the left way right makes the right way right
pub pairs_right : {A B C : Pattern} → Pair A B → Pair (join_of A B) C → Pair B C × Pair A (join_of B C)
pairs_right {A} {B} {C} p q =
    let x = pair_joined p in
    let bc : Pair B C = record {
      view = p.tail;
      tail = q.tail;
      start = q.start;
      same = sym (output_label x p.view.output p.same p.tail.output) ∙ q.same;
      few = omega (arith, q.few, x.size, p.tail.some, p.view.some);
    } in
    let y = pair_joined bc in (
      bc,
      record {
        view = p.view;
        tail = pair_valid bc;
        start = first_axis y p.tail.output ∙ p.start;
        same = p.same ∙ sym (first_label y p.tail.output);
        few = omega (arith, q.few, x.size, y.size, p.tail.some);
      },
    )

-- and the other way
pub pairs_left : {A B C : Pattern} → Pair B C → Pair A (join_of B C) → Pair A B × Pair (join_of A B) C
pairs_left {A} {B} {C} p q =
    let y = pair_joined p in
    let ab : Pair A B = record {
      view = q.view;
      tail = p.view;
      start = sym (first_axis y p.view.output) ∙ q.start;
      same = q.same ∙ first_label y p.view.output;
      few = omega (arith, q.few, y.size, p.view.some);
    } in
    let x = pair_joined ab in (
      ab,
      record {
        view = pair_valid ab;
        tail = p.tail;
        start = p.start;
        same = output_label x q.view.output ab.same p.view.output ∙ p.same;
        few = omega (arith, q.few, x.size, y.size, p.view.some);
      },
    )

-- the two ways give one table, by what joining checks
pub pairs_assoc : {A B C : Pattern} → Pair A B → Pair (join_of A B) C → Pair B C → Pair A (join_of B C) → join_of (join_of A B) C ≡ join_of A (join_of B C)
pairs_assoc {A} {B} {C} p q v w =
    sym (join_clean (join_of A B) C) ∙ pattern_of_agree (joined_assoc (pair_joined p) (pair_joined q) (pair_joined v) (pair_joined w) p.view.output
    p.tail.output) ∙ join_clean A (join_of B C)

-- the one way is accepted exactly where the other is
pub join_assoc_accepted : (A B C : Pattern) → (Joinable A B × Joinable (join_of A B) C) ↔ (Joinable B C × Joinable A (join_of B C))
join_assoc_accepted A B C = (
  λ h. let k = pairs_right (pair_of A B h.0) (pair_of (join_of A B) C h.1) in (pair_joinable k.0, pair_joinable k.1),
  λ h. let k = pairs_left (pair_of B C h.0) (pair_of A (join_of B C) h.1) in (pair_joinable k.0, pair_joinable k.1),
)

-- the two ways give one table
pub join_assoc : (A B C : Pattern) → Joinable A B → Joinable (join_of A B) C → Joinable B C → Joinable A (join_of B C) → join_of (join_of A B) C ≡ join_of A
    (join_of B C)
join_assoc A B C p q v w = pairs_assoc (pair_of A B p) (pair_of (join_of A B) C q) (pair_of B C v) (pair_of A (join_of B C) w)

-- it is enough that one way is accepted
pub join_assoc_either : (A B C : Pattern) → (Joinable A B × Joinable (join_of A B) C) ⊎ (Joinable B C × Joinable A (join_of B C)) → join_of (join_of A B) C ≡
    join_of A (join_of B C)
join_assoc_either A B C h = ⊎_elim (λ x. let y = (join_assoc_accepted A B C).0 x in join_assoc A B C x.0 x.1 y.0 y.1)
    (λ y. let x = (join_assoc_accepted A B C).1 y in join_assoc A B C x.0 x.1 y.0 y.1)
    h
