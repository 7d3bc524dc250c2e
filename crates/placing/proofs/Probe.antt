-- A task's tests, and the recursion over them that decides whether a row with all below it, or the whole tree, can be sent. Assumes nothing.
use Rattle.tables.proofs.Kit.{ℕ, zero, suc, ◌+◌, ◌≤◌, ◌<◌, refl, subst, Bool, false, ◌&&◌, arith, T}
use Rattle.tables.specs.Tree.{Tree, Child, child}
use Rattle.tables.proofs.{Trees.{Ordered, below_lt}, Tests.{Tells, tells_and, tells_imp, tells_iff, tells_self, imp, every, some, tells_every, tells_some}}
use Rattle.tables.proofs.TreeTests.{is_child, tells_child}
use Rattle.placing.proofs.Fit.{Task, Able, able, able_ok, able_next, Whole, whole_able, whole_root, whole_up, whole_down}

-- the tests of a task, for numbers below a bound, and a test for the first row
pub record Probe : Type 0 where
  pub ok : ℕ → ℕ → Bool
  pub edge : ℕ → ℕ → ℕ → Bool
  pub first : ℕ → Bool
  pub bound : ℕ

-- can row s with all below it be sent, s to i? k bounds the depth
unfoldable pub can : Tree → Probe → ℕ → ℕ → ℕ → Bool
can S R zero s i = false
can S R (suc k) s i = R.ok s i && every S.size (λ t. imp (is_child S s t) (some R.bound (λ j. R.edge t i j && can S R k t j)))

unfoldable pub can_send : Tree → Probe → ℕ → ℕ → Bool
can_send S R s i = can S R S.size s i

-- can the whole tree be sent, s to i? up to the first row, k of them at most
unfoldable pub whole_to : Tree → Probe → ℕ → ℕ → ℕ → Bool
whole_to S R zero s i = false
whole_to S R (suc k) zero i = can_send S R 0 i && R.first i
whole_to S R (suc k) (suc s) i = can_send S R (suc s) i && some R.bound (λ j. whole_to S R k (S.parent (suc s)) j && R.edge (suc s) j i)

unfoldable pub can_whole : Tree → Probe → ℕ → ℕ → Bool
can_whole S R s i = whole_to S R S.size s i

-- the tests tell what the task says
pub record Probes (R : Probe) (P : Task) (First : ℕ → Type 0) : Type 0 where
  pub ordered : Ordered P.tree
  pub ok : (s i : ℕ) → Tells (R.ok s i) (P.ok s i)
  pub edge : (s j i : ℕ) → Tells (R.edge s j i) (P.edge s j i)
  pub first : (i : ℕ) → Tells (R.first i) (First i)
  pub within : (s i : ℕ) → P.ok s i → i < R.bound

module _ (R : Probe) (P : Task) (First : ℕ → Type 0) (p : Probes R P First) where
  -- what one turn of the recursion says
  One : ℕ → ℕ → ℕ → Type 0
  One k s i = P.ok s i × ((t : ℕ) → t < P.tree.size → Child P.tree s t → (j : ℕ) × (j < R.bound) × (P.edge t i j × T (can P.tree R k t j)))

  tells_one : (k s i : ℕ) → Tells (can P.tree R (suc k) s i) (One k s i)
  unfolding can One
  tells_one k s i = tells_and (p.ok s i)
      (tells_every (λ t. tells_imp (tells_child P.tree s t) (tells_some (λ j. tells_and (p.edge t i j) tells_self) R.bound)) P.tree.size)

  can_able : (k s i : ℕ) → T (can P.tree R k s i) → Able P s i
  unfolding can One
  can_able zero s i t = absurd t
  can_able (suc k) s i t =
      let o : One k s i = (tells_one k s i).says t in
      able o.0 (λ t c. (o.1 t c.here c).0) (λ t c. (o.1 t c.here c).2.0) (λ t c. can_able k t (o.1 t c.here c).0 (o.1 t c.here c).2.1)

  able_can : (k s i : ℕ) → s < P.tree.size → P.tree.size ≤ k + s → Able P s i → T (can P.tree R k s i)
  unfolding One
  able_can zero s i l m a = absurd (omega arith)
  able_can (suc k) s i l m a = (tells_one k s i).test (
    able_ok P a,
    λ t h c.
        let n = able_next P a t c in
        (n.0, p.within t n.0 (able_ok P n.2), (n.1, able_can k t n.0 c.here (omega (arith, below_lt p.ordered (child c))) n.2)),
  )

  -- the test tells whether row s with all below it can be sent to i
  pub tells_can : (s i : ℕ) → s < P.tree.size → Tells (can_send P.tree R s i) (Able P s i)
  unfolding can_send
  tells_can s i l = record { says = can_able P.tree.size s i; test = able_can P.tree.size s i l (omega arith) }

  whole_tells : (k s i : ℕ) → s < k → s < P.tree.size → Tells (whole_to P.tree R k s i) (Whole P First s i)
  unfolding whole_to
  whole_tells zero s i l m = absurd (omega arith)
  whole_tells (suc k) zero i l m = tells_iff (tells_and (tells_can 0 i m) (p.first i)) (
    λ q. whole_root P First p.ordered i q.1 q.0,
    λ w. (whole_able P First p.ordered 0 i m w, subst First w.at w.start),
  )
  whole_tells (suc k) (suc s) i l m =
      let q : ℕ = P.tree.parent (suc s) in
      let c : Child P.tree q (suc s) = record { late = omega arith; here = m; up = refl } in
      let d : q < suc s = below_lt p.ordered (child c) in
      tells_iff (tells_and (tells_can (suc s) i m) (tells_some (λ j. tells_and (whole_tells k q j (omega arith) (omega arith)) (p.edge (suc s) j i))
      R.bound)) (
        λ x. whole_down P First p.ordered (suc s) q i x.1.0 c x.1.2.0 x.1.2.1 x.0,
        λ w. (
          whole_able P First p.ordered (suc s) i m w,
          let u = whole_up P First (suc s) q i c w in
              (u.0, p.within q u.0 (able_ok P (whole_able P First p.ordered q u.0 (omega arith) u.1)), (u.1, u.2)),
        ),
      )

  -- the test tells whether the whole tree can be sent, s to i
  pub tells_whole : (s i : ℕ) → s < P.tree.size → Tells (can_whole P.tree R s i) (Whole P First s i)
  unfolding can_whole
  tells_whole s i l = whole_tells P.tree.size s i l l
