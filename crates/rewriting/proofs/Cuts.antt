-- The cut of a query at a step of its main path: it exists, it obeys the rules, and no second fits. Assumes nothing.
use Rattle.tables.proofs.Kit.{ℕ, zero, suc, ◌+◌, ◌-◌, ◌≤◌, ◌<◌, ◌≡◌, refl, sym, ap, ◌∙◌, subst, subst₂}
use Rattle.tables.proofs.Kit.{◌⊎◌, inl, inr, ⊎_elim, Bool, true, false, cond, arith, dec_lt, ℕ_discrete}
use Rattle.tables.specs.{Tree.{Tree, Child, Below, child, under, From, IsLabel}, Pattern.{Shape, StepRule, ValidShape}}
use Rattle.tables.proofs.{Choice.below_or_at, TreeTests.{is_from, tells_from}, Depth.run, Rules.{Agree, shape_ordered}}
use Rattle.tables.proofs.{Tests.Tells, Trees.{Ordered, below_lt, below_up, from_child, from_below, from_here, from_le}}
use Rattle.rewriting.specs.Candidate.{Cut}

-- how many of the numbers below n pass a test
unfoldable pub how_many : ℕ → (ℕ → Bool) → ℕ
how_many zero p = 0
how_many (suc n) p = cond (p n) 1 0 + how_many n p

-- of the first k rows, m are at or below c, and those stand in one run from c on
record Run (T : Tree) (c k m : ℕ) : Type 0 where
  only : (t : ℕ) → t < m → From T c (c + t)
  all : (u : ℕ) → u < k → From T c u → u < c + m
  late : c < k → c + m ≤ k
  none : k ≤ c → m ≡ 0

runs : {T : Tree} → Ordered T → (c k : ℕ) → Run T c k (how_many k (is_from T c))
unfolding how_many
runs v c zero = record { only = λ t l. absurd (omega arith); all = λ u l w. absurd (omega arith); late = λ l. absurd (omega arith); none = λ l. refl }
runs {T} v c (suc k) = go (is_from T c k) (tells_from T v c k) (runs v c k)
  where
    m : ℕ
    m = how_many k (is_from T c)

    -- a row at or below c follows the run
    follows : From T c k → Run T c k m → c + m ≡ k
    follows w r = pick (ℕ_discrete c k)
      where
        pick : Dec (c ≡ k) → c + m ≡ k
        pick (yes e) = omega (arith, r.none (omega arith))
        pick (no e) =
            let l : c < k = omega (arith, from_le v c k w) in let u : ℕ = k - 1 in
            omega (arith, r.late l, r.all u (omega arith) (run v c k u w (omega arith) (omega arith)))

    go : (b : Bool) → Tells b (From T c k) → Run T c k m → Run T c (suc k) (cond b 1 0 + m)
    go true t r =
        let w : From T c k = t.says tt in let e : c + m ≡ k = follows w r in
        record {
          only = λ t l. below_or_at {u = t} {k = m} (omega arith) (r.only t) (λ z. subst (From T c) {x = k} (omega arith) w);
          all = λ u l x. omega arith;
          late = λ l. omega arith;
          none = λ l. absurd (omega (arith, from_le v c k w));
        }
    go false t r = record {
      only = λ t l. r.only t (omega arith);
      all = λ u l x. below_or_at l (λ h. omega (arith, r.all u h x)) (λ e. absurd (t.test (subst (From T c) e x)));
      late = λ l. below_or_at l (λ h. omega (arith, r.late h)) (λ e. absurd (t.test (inl e)));
      none = λ l. omega (arith, r.none (omega arith));
    }

-- a for number 0, b for a later one
abbrev pub value_at_zero : ℕ → ℕ → ℕ → ℕ
value_at_zero zero a b = a
value_at_zero (suc t) a b = b

pub at_late : (t a b : ℕ) → 0 < t → value_at_zero t a b ≡ b
at_late zero a b l = absurd (omega arith)
at_late (suc t) a b l = refl

-- the cut, as it is computed
unfoldable pub cut_shape : Shape → ℕ → Shape
cut_shape Q c = record {
  tree = record { size = how_many Q.tree.size (is_from Q.tree c); parent = λ t. value_at_zero t 255 (Q.tree.parent (c + t) - c) };
  label = λ t. Q.label (c + t);
  axis = λ t. value_at_zero t 0 (Q.axis (c + t));
  output = Q.output - c;
}

-- a step at or below c that is not c hangs on one that is
hangs_from : {T : Tree} → Ordered T → (c t : ℕ) → 0 < t → From T c (c + t) → c ≤ T.parent (c + t)
hangs_from {T} v c t p w = ⊎_elim (λ e. absurd (omega arith)) (λ b. from_le v c (T.parent (c + t)) (below_up b).1) w

pub cut_shape_lem : {Q : Shape} → Ordered Q.tree → (c : ℕ) → c < Q.tree.size → From Q.tree c Q.output → Cut Q c (cut_shape Q c)
unfolding cut_shape
cut_shape_lem {Q} v c h main =
    let r : Run Q.tree c Q.tree.size (how_many Q.tree.size (is_from Q.tree c)) = runs v c Q.tree.size in
    record {
      all = λ u w. r.all u (from_here h w) w;
      only = r.only;
      label = λ t l. refl;
      axis = λ t p l. sym (at_late t 0 (Q.axis (c + t)) p);
      parent = λ t p l. omega (arith, at_late t 255 (Q.tree.parent (c + t) - c) p, hangs_from v c t p (r.only t l));
      first_axis = refl;
      root = refl;
      output = omega (arith, from_le v c Q.output main);
    }

module _ {Q C : Shape} {c : ℕ} (v : Ordered Q.tree) (k : Cut Q c C) where
  -- the cut's steps are the query's from c on
  pub cut_small : (t : ℕ) → t < C.tree.size → c < Q.tree.size → c + t < Q.tree.size
  cut_small t l h = from_here h (k.only t l)

  pub cut_some : 0 < C.tree.size
  cut_some = omega (arith, k.all c (inl refl))

  pub cut_child : (u w : ℕ) → From Q.tree c u → Child Q.tree u w → Child C.tree (u - c) (w - c) × (C.axis (w - c) ≡ Q.axis w)
  cut_child u w f d =
      let b : Below Q.tree c w = from_child f d in let p : c < w = below_lt v b in
      let s : w < c + C.tree.size = k.all w (inr b) in
      let z : c + (w - c) ≡ w = omega arith in (
        record { late = omega arith; here = omega arith; up = omega (arith, k.parent (w - c) (omega arith) (omega arith), ap Q.tree.parent z, d.up) },
        sym (k.axis (w - c) (omega arith) (omega arith)) ∙ ap Q.axis z,
      )

  pub cut_below : {u w : ℕ} → From Q.tree c u → Below Q.tree u w → Below C.tree (u - c) (w - c)
  cut_below {u} {w} f (child d) = child (cut_child u w f d).0
  cut_below {u} {w} f (under {m = m} d b) = under (cut_child m w (inr (from_below f b)) d).0 (cut_below f b)

-- the cut of a query that obeys the rules obeys them
pub cut_valid : {Q C : Shape} {c : ℕ} → ValidShape Q → Cut Q c C → c < Q.tree.size → From Q.tree c Q.output → ValidShape C
cut_valid {Q} {C} {c} v k h main = record {
  some = some;
  few = omega (arith, v.few, cut_small o k (C.tree.size - 1) (omega (arith, some)) h);
  steps = step;
  output = omega (arith, k.all Q.output main, k.output);
}
  where
    o : Ordered Q.tree
    o = shape_ordered v

    some : 0 < C.tree.size
    some = cut_some o k

    hangs : (t : ℕ) → suc t < C.tree.size → From C.tree (C.tree.parent (suc t)) t
    hangs t l =
        let e : Q.tree.parent (c + suc t) ≡ c + C.tree.parent (suc t) = k.parent (suc t) (omega arith) l in
        let z : c + suc t ≡ suc (c + t) = omega arith in
        let m : suc (c + t) < Q.tree.size = omega (arith, cut_small o k (suc t) l h) in
        let w : From Q.tree (Q.tree.parent (suc (c + t))) (c + t) = o.order (c + t) m in
        let y : Q.tree.parent (suc (c + t)) ≡ c + C.tree.parent (suc t) = ap Q.tree.parent (sym z) ∙ e in
        let f : From Q.tree c (c + C.tree.parent (suc t)) = ⊎_elim (λ g. absurd (omega arith)) (λ b. subst (From Q.tree c) e (below_up b).1)
        (k.only (suc t) l) in
        let p : c + C.tree.parent (suc t) - c ≡ C.tree.parent (suc t) = omega arith in
        let q : c + t - c ≡ t = omega arith in
        ⊎_elim (λ g. inl (omega arith)) (λ b. inr (subst₂ (Below C.tree) p q (cut_below o k f (subst (λ (x : ℕ). Below Q.tree x (c + t)) y b)))) w

    label : (t : ℕ) → t < C.tree.size → IsLabel (C.label t)
    label t l = subst IsLabel (k.label t l) (v.steps (c + t) (cut_small o k t l h)).label

    step : (t : ℕ) → t < C.tree.size → StepRule C t
    step zero l = record { hangs = k.root; axis = inl k.first_axis; label = label 0 l }
    step (suc t) l = record {
      hangs = hangs t l;
      axis = subst (λ (x : ℕ). (x ≡ 0) ⊎ (x ≡ 1)) (k.axis (suc t) (omega arith) l) (v.steps (c + suc t) (cut_small o k (suc t) l h)).axis;
      label = label (suc t) l;
    }

-- no second cut fits
pub cut_unique : {Q C D : Shape} {c : ℕ} → Cut Q c C → Cut Q c D → Agree C D
cut_unique {Q} {C} {D} {c} k m = record {
  size = size;
  output = omega (arith, k.output, m.output);
  parent = λ t l. parent t l;
  axis = λ t l. axis t l;
  label = λ t l. sym (k.label t l) ∙ m.label t (omega (arith, size));
}
  where
    no_more : {C D : Shape} → Cut Q c C → Cut Q c D → C.tree.size < D.tree.size → ⊥
    no_more {C} {D} k m l = omega (arith, k.all (c + C.tree.size) (m.only C.tree.size l))

    size : C.tree.size ≡ D.tree.size
    size = go (dec_lt C.tree.size D.tree.size) (dec_lt D.tree.size C.tree.size)
      where
        go : Dec (C.tree.size < D.tree.size) → Dec (D.tree.size < C.tree.size) → C.tree.size ≡ D.tree.size
        go (yes h) e = absurd (no_more k m h)
        go (no h) (yes e) = absurd (no_more m k e)
        go (no h) (no e) = omega arith

    parent : (t : ℕ) → t < C.tree.size → C.tree.parent t ≡ D.tree.parent t
    parent zero l = k.root ∙ sym m.root
    parent (suc t) l = omega (arith, k.parent (suc t) (omega arith) l, m.parent (suc t) (omega arith) (omega (arith, size)))

    axis : (t : ℕ) → t < C.tree.size → C.axis t ≡ D.axis t
    axis zero l = k.first_axis ∙ sym m.first_axis
    axis (suc t) l = sym (k.axis (suc t) (omega arith) l) ∙ m.axis (suc t) (omega arith) (omega (arith, size))

-- a shape of the same table is the same cut
pub cut_agree : {Q C D : Shape} {c : ℕ} → Agree C D → 0 < C.tree.size → Cut Q c C → Cut Q c D
cut_agree {Q} {C} {D} {c} a p k = record {
  all = λ u w. omega (arith, k.all u w, a.size);
  only = λ t l. k.only t (omega (arith, a.size));
  label = λ t l. k.label t (omega (arith, a.size)) ∙ a.label t (omega (arith, a.size));
  axis = λ t h l. k.axis t h (omega (arith, a.size)) ∙ a.axis t (omega (arith, a.size));
  parent = λ t h l. k.parent t h (omega (arith, a.size)) ∙ ap (λ x. c + x) (a.parent t (omega (arith, a.size)));
  first_axis = sym (a.axis 0 p) ∙ k.first_axis;
  root = sym (a.parent 0 p) ∙ k.root;
  output = k.output ∙ ap (λ x. c + x) a.output;
}
