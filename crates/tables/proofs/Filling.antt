-- A pattern's table, filled step by step: the steps before the one looked at stand in the three arrays, with zeros after them. Assumes nothing.
use Rattle.tables.proofs.Kit.{ℕ, ◌+◌, ◌≤◌, ◌<◌, ◌≡◌, ap, arith}
use Rattle.tables.specs.{Column.{blocks, padded, step_array}, declared.Pattern.Pattern, declared.StepNo.StepNo}
use Rattle.tables.specs.Pattern.{Shape, table_of, pattern_of, zero_pattern, pushed}
use Rattle.tables.proofs.{Columns.{padded_next, steps_next}, Rules.pattern_ext}

-- the first k steps of A are written
pub record Filled (A : Shape) (k : ℕ) (p : Pattern) : Type 0 where
  pub low : k ≤ A.tree.size
  pub few : A.tree.size ≤ 64
  pub count : p.count ≡ k
  pub output : p.output.0 ≡ A.output
  pub parents : p.parent ≡ step_array A.tree.parent k
  pub axes : p.axis ≡ padded A.axis k
  pub labels : p.label ≡ padded A.label k

-- none yet: the pattern of no steps, with an output step
pub filled_none : (A : Shape) (p : Pattern) (o : StepNo) → p ≡ zero_pattern → o.0 ≡ A.output → A.tree.size ≤ 64 → Filled A 0 (record p { output = o })
unfolding blocks step_array zero_pattern table_of
filled_none A p o e f l = record {
  low = omega arith;
  few = l;
  count = ap (λ (q : Pattern). q.count) e;
  output = f;
  parents = ap (λ (q : Pattern). q.parent) e;
  axes = ap (λ (q : Pattern). q.axis) e;
  labels = ap (λ (q : Pattern). q.label) e;
}

-- one more
pub filled_next : {A : Shape} {k : ℕ} {p : Pattern} (x : StepNo) (y z : ℕ) → Filled A k p → k < A.tree.size
    → x.0 ≡ A.tree.parent k → y ≡ A.axis k → z ≡ A.label k → Filled A (k + 1) (pushed p x y z)
filled_next {A} {k} {p} x y z f l ex ey ez = record {
  low = omega arith;
  few = f.few;
  count = omega (arith, f.count);
  output = f.output;
  parents = rw f.count (steps_next A.tree.parent p.parent k x.0 (omega (arith, f.few)) ex f.parents);
  axes = rw f.count (padded_next A.axis p.axis k y (omega (arith, f.few)) ey f.axes);
  labels = rw f.count (padded_next A.label p.label k z (omega (arith, f.few)) ez f.labels);
}

-- all of them
pub filled_all : {A : Shape} {k : ℕ} {p : Pattern} → Filled A k p → A.tree.size ≤ k → p ≡ pattern_of A
unfolding pattern_of table_of
filled_all {A} {k} {p} f l =
    let e : k ≡ A.tree.size = omega (arith, f.low) in
    pattern_ext p (pattern_of A) (omega (arith, f.count)) f.output (rw e at f.parents) (rw e at f.axes) (rw e at f.labels)
