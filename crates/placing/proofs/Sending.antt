-- Placements are fits of a task, so the recursion decides them and a test runs. Assumes nothing.
use Rattle.tables.proofs.Kit.{ℕ, zero, suc, ◌<◌, ◌↔◌, Bool, ◌&&◌, ltb, eqb}
use Rattle.tables.specs.{Tree.Rows, Pattern.Shape}
use Rattle.tables.proofs.{Trees.Ordered, Tests.{Tells, tells_lt, tells_eq, tells_and, tells_iff}, TreeTests.{is_child, tells_child, is_below, tells_below}}
use Rattle.placing.specs.Placement.{LabelFits, Takes, Goes, Sends, Reaches, ReachesFrom}
use Rattle.placing.proofs.{Fit.{Task, Fit, Able, fit_able, able_fit, Whole}, Probe.{Probe, Probes, can_send, can_whole, tells_can, tells_whole}}

-- the task of sending a pattern's steps to rows
abbrev pub task : Shape → Rows → Task
task A X = record { tree = A.tree; ok = λ s i. Takes X (A.label s) i; edge = λ s j i. Goes X (A.axis s) j i }

pub sends_fit : (A : Shape) (X : Rows) (f : ℕ → ℕ) → Sends A X f → Fit (task A X) f
sends_fit A X f h = record { ok = h.takes; edge = h.edge }

pub fit_sends : (A : Shape) (X : Rows) (f : ℕ → ℕ) → Fit (task A X) f → Sends A X f
fit_sends A X f h = record { takes = h.ok; edge = h.edge }

pub reaches_whole : (A : Shape) (X : Rows) (First : ℕ → Type 0) (s i : ℕ) → Whole (task A X) First s i ↔ Reaches A X First s i
reaches_whole A X First s i = (
  λ w. record { by = w.by; sends = fit_sends A X w.by w.fit; first = w.start; at = w.at },
  λ r. record { by = r.by; fit = sends_fit A X r.by r.sends; start = r.first; at = r.at },
)

pub reaches_able : (A : Shape) (X : Rows) → Ordered A.tree → (s i : ℕ) → s < A.tree.size → Able (task A X) s i ↔ ReachesFrom A X s i
reaches_able A X v s i l = (
  λ a. let p = able_fit (task A X) v s i l a in
      record { by = p.0; sends = record { at = p.1.at; takes = p.1.ok; edge = p.1.edge } },
  λ r. fit_able (task A X) v s i r.by (record { at = r.sends.at; ok = r.sends.takes; edge = r.sends.edge }),
)

-- the tests
unfoldable pub label_fits : ℕ → ℕ → Bool
label_fits l m = eqb m l

pub tells_fits : (l m : ℕ) → Tells (label_fits l m) (LabelFits l m)
unfolding label_fits
tells_fits l m = tells_iff (tells_eq m l) (λ e. record { same = e }, λ h. h.same)

unfoldable pub takes : Rows → ℕ → ℕ → Bool
takes X l i = ltb i X.tree.size && label_fits l (X.label i)

pub tells_takes : (X : Rows) (l i : ℕ) → Tells (takes X l i) (Takes X l i)
unfolding takes
tells_takes X l i = tells_iff (tells_and (tells_lt i X.tree.size) (tells_fits l (X.label i)))
    (λ p. record { here = p.0; fits = p.1 }, λ h. (h.here, h.fits))

abbrev pub goes : Rows → ℕ → ℕ → ℕ → Bool
goes X zero j i = is_child X.tree j i && eqb (X.axis i) 0
goes X (suc a) j i = is_below X.tree j i

pub tells_goes : (X : Rows) → Ordered X.tree → (a j i : ℕ) → Tells (goes X a j i) (Goes X a j i)
tells_goes X v zero j i = tells_and (tells_child X.tree j i) (tells_eq (X.axis i) 0)
tells_goes X v (suc a) j i = tells_below X.tree v j i

abbrev pub probe : Shape → Rows → (ℕ → Bool) → Probe
probe A X first = record { ok = λ s i. takes X (A.label s) i; edge = λ s j i. goes X (A.axis s) j i; first = first; bound = X.tree.size }

module _ (A : Shape) (X : Rows) (first : ℕ → Bool) (First : ℕ → Type 0) (va : Ordered A.tree) (vx : Ordered X.tree)
    (tells_first : (i : ℕ) → Tells (first i) (First i)) where
  probes : Probes (probe A X first) (task A X) First
  probes = record {
    ordered = va;
    ok = λ s i. tells_takes X (A.label s) i;
    edge = λ s j i. tells_goes X vx (A.axis s) j i;
    first = tells_first;
    within = λ s i h. h.here;
  }

  -- the test tells whether step s with all below it can be sent to row i
  pub tells_reaches_from : (s i : ℕ) → s < A.tree.size → Tells (can_send A.tree (probe A X first) s i) (ReachesFrom A X s i)
  tells_reaches_from s i l = tells_iff (tells_can (probe A X first) (task A X) First probes s i l) (reaches_able A X va s i l)

  -- and whether all steps can be sent, s to row i
  pub tells_reaches : (s i : ℕ) → s < A.tree.size → Tells (can_whole A.tree (probe A X first) s i) (Reaches A X First s i)
  tells_reaches s i l = tells_iff (tells_whole (probe A X first) (task A X) First probes s i l) (reaches_whole A X First s i)
