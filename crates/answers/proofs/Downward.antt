-- The second pass, node by node: where a step stands in a whole placement, and what its child steps may then take. Assumes nothing.
use Rattle.tables.proofs.Kit.{ℕ, zero, suc, ◌+◌, ◌*◌, ◌<◌, ◌≡◌, refl, sym, ◌∙◌, subst, ◌⊎◌, inl, inr, ⊎_elim}
use Rattle.tables.proofs.Kit.{List, arith, eq-zero-or-pos, bit_or, bit_and, length, get_or}
use Rattle.tables.specs.{Bits.Marks, Tree.{Child, child}, Document.{Document, node_count, nodes_of}, Pattern.{Shape, ValidShape}}
use Rattle.tables.proofs.{Choice.below_or_at, Marks.{marks_to, marks_or, marks_and}, Rules.shape_ordered, Trees.{below_lt, below_up, from_child}}
use Rattle.placing.specs.Placement.{Goes}
use Rattle.placing.proofs.{Fit.{Whole, whole_able, whole_root, whole_up, whole_down}, Sending.{task, reaches_whole}}
use Rattle.answers.specs.{Working.{FitsAt, PlacedAt}, inner.Standing.{Allowed, PassedOn, Downward}}
use Rattle.marking.proofs.Upward.{can}

module _ (A : Shape) (d : Document) (First : ℕ → Type 0) (va : ValidShape A) where
  placed_whole : (i s : ℕ) → PlacedAt A d First i s → Whole (task A (nodes_of d)) First s i
  placed_whole i s h = (reaches_whole A (nodes_of d) First s i).1 h.1

  whole_placed : (i s : ℕ) → s < A.tree.size → Whole (task A (nodes_of d)) First s i → PlacedAt A d First i s
  whole_placed i s l w = (l, (reaches_whole A (nodes_of d) First s i).0 w)

  placed_fits : (i s : ℕ) → PlacedAt A d First i s → FitsAt A d i s
  placed_fits i s h = (can A d va i s).0 (h.0, whole_able (task A (nodes_of d)) First (shape_ordered va) s i h.0 (placed_whole i s h))

  placed_first : (i : ℕ) → PlacedAt A d First i 0 → First i
  placed_first i h = let w = placed_whole i 0 h in subst First w.at w.start

  first_placed : (i : ℕ) → FitsAt A d i 0 → First i → PlacedAt A d First i 0
  first_placed i h f = whole_placed i 0 h.0 (whole_root (task A (nodes_of d)) First (shape_ordered va) i f ((can A d va i 0).1 h).1)

  -- a step that stands in a placement has its parent step standing above it
  placed_up : (i s t : ℕ) → Child A.tree s t → PlacedAt A d First i t → (j : ℕ) × PlacedAt A d First j s × Goes (nodes_of d) (A.axis t) j i
  placed_up i s t c h =
      let w = whole_up (task A (nodes_of d)) First t s i c (placed_whole i t h) in
      (w.0, whole_placed w.0 s (omega (arith, below_lt (shape_ordered va) (child c), c.here)) w.1, w.2)

  placed_down : (i j s t : ℕ) → Child A.tree s t → PlacedAt A d First j s → Goes (nodes_of d) (A.axis t) j i → FitsAt A d i t → PlacedAt A d First i t
  placed_down i j s t c h g f = whole_placed i t f.0 (whole_down (task A (nodes_of d)) First (shape_ordered va) t s i j c (placed_whole j s h) g
      ((can A d va i t).1 f).1)

  axis_one : (t a : ℕ) → t < A.tree.size → A.axis t ≡ suc a → A.axis t ≡ 1
  axis_one t a l e = ⊎_elim (λ z. absurd (omega arith)) (λ z. z) (va.steps t l).axis

  -- every step but the first hangs on its parent step
  hangs : (t : ℕ) → 0 < t → t < A.tree.size → Child A.tree (A.tree.parent t) t
  hangs t p l = record { late = p; here = l; up = refl }

  -- what was allowed to a node is what its parent allows; node 0 has none
  abbrev pub Over : ℕ → ℕ → Type 0
  Over i s = (p : ℕ) × Child (nodes_of d).tree p i × Allowed A d First p s

  module _ (i : ℕ) where
    -- what a node takes: steps that fit, and were allowed to it or start there
    abbrev Taken : ℕ → Type 0
    Taken s = FitsAt A d i s × (Over i s ⊎ ((s ≡ 0) × First i))

    taken_placed : (t : ℕ) → Taken t → PlacedAt A d First i t
    taken_placed t h = ⊎_elim (λ o. let w = o.2 in ⊎_elim (λ x. placed_down i o.0 w.0 t w.1 x.1 (rw x.0 (o.1, refl)) h.0)
        (λ x. placed_down i x.1.0 w.0 t w.1 x.1.2 (rw x.0 (from_child x.1.1 o.1)) h.0) w.2)
        (λ w. subst (PlacedAt A d First i) (sym w.0) (first_placed i (subst (FitsAt A d i) w.0 h.0) w.1)) h.1

    above : (t s j a : ℕ) → A.axis t ≡ a → t < A.tree.size → Child A.tree s t → Goes (nodes_of d) a j i → PlacedAt A d First j s → Over i t
    above t s j zero e l k g h = (j, g.0, (s, k, inl (e, h)))
    above t s j (suc a) e l k g h = let u = below_up g in ((nodes_of d).tree.parent i, u.0, (s, k, inr (axis_one t a l e, (j, u.1, h))))

    placed_taken : (t : ℕ) → PlacedAt A d First i t → Taken t
    placed_taken t h = (
      placed_fits i t h,
      ⊎_elim (λ z. inr (z, placed_first i (subst (PlacedAt A d First i) z h)))
          (λ q. let k = hangs t q h.0 in let u = placed_up i (A.tree.parent t) t k h in inl
          (above t (A.tree.parent t) u.0 (A.axis t) refl h.0 k u.2 u.1))
          (eq-zero-or-pos t),
    )

    -- what the node's children may take: child steps of those that stand at it, and what was allowed from further above
    module _ (whole over : ℕ) (mw : Marks whole (PlacedAt A d First i)) (mo : Marks over (Over i)) where
      passed_allowed : (t : ℕ) → PassedOn A whole over t → Allowed A d First i t
      passed_allowed t h = ⊎_elim (λ w. (
        w.0,
        w.2,
        ⊎_elim (λ e. inl (e, mw.only w.0 w.1)) (λ e. inr (e, (i, inl refl, mw.only w.0 w.1))) (va.steps t w.2.here).axis,
      ))
          (λ w. let o = mo.only t w.0 in (
            o.2.0,
            o.2.1,
            ⊎_elim (λ x. absurd (omega (arith, x.0, w.1.2))) (λ x. inr (x.0, (x.1.0, inr (from_child x.1.1 o.1), x.1.2))) o.2.2,
          )) h

      allowed_passed : (t : ℕ) → Allowed A d First i t → PassedOn A whole over t
      allowed_passed t h = ⊎_elim (λ x. inl (h.0, mw.put h.0 x.1, h.1)) (λ x. ⊎_elim
          (λ e. inl (h.0, mw.put h.0 (subst (λ (y : ℕ). PlacedAt A d First y h.0) e x.1.2), h.1))
          (λ b. let u = below_up b in
          inr (mo.put t ((nodes_of d).tree.parent i, u.0, (h.0, h.1, inr (x.0, (x.1.0, u.1, x.1.2)))), (h.1.late, h.1.here, x.0))) x.1.1)
          h.2

      pub node_allowed : (x : ℕ) → Marks x (PassedOn A whole over) → Marks x (Allowed A d First i)
      node_allowed x m = marks_to x (PassedOn A whole over) (Allowed A d First i) passed_allowed allowed_passed m

    -- the steps that fit, among those that were allowed to the node or start there, are those that stand at it
    pub node_placed : (fit over start : ℕ) → Marks fit (FitsAt A d i) → Marks over (Over i) → Marks start (λ s. (s ≡ 0) × First i)
        → Marks (bit_and fit (bit_or over start)) (PlacedAt A d First i)
    node_placed fit over start mf mo ms = marks_to (bit_and fit (bit_or over start)) Taken (PlacedAt A d First i) taken_placed placed_taken
        (marks_and fit (bit_or over start) (FitsAt A d i) (λ s. Over i s ⊎ ((s ≡ 0) × First i)) mf
        (marks_or over start (Over i) (λ s. (s ≡ 0) × First i) mo ms))

  -- one turn: node i gets its second entry, and what its children may take
  pub down_turn : (i whole x : ℕ) (before work after allowed allowed' : List ℕ) → i < node_count d → Downward A d First i before work allowed
      → Marks whole (PlacedAt A d First i) → Marks x (Allowed A d First i)
      → length after ≡ length work → get_or after (2 * i + 1) 0 ≡ whole → ((q : ℕ) → (q ≡ 2 * i + 1 → ⊥) → get_or after q 0 ≡ get_or work q 0)
      → get_or allowed' i 0 ≡ x → ((k : ℕ) → k < i → get_or allowed' k 0 ≡ get_or allowed k 0)
      → Downward A d First (suc i) before after allowed'
  down_turn i whole x before work after allowed allowed' l u mw mx e a r b s = record {
    same_length = e ∙ u.same_length;
    fits = λ k m. rw (r (2 * k) (λ z. omega arith)) (u.fits k m);
    placed = λ k m. below_or_at m (λ h. rw (r (2 * k + 1) (λ z. omega arith)) (u.placed k h))
        (λ z. subst (λ (y : ℕ). Marks (get_or after (2 * y + 1) 0) (PlacedAt A d First y)) (sym z) (rw a mw));
    starts = λ k m n. rw (r (2 * k + 1) (λ z. omega arith)) (u.starts k (omega arith) n);
    allows = λ k m. below_or_at m (λ h. rw (s k h) (u.allows k h))
        (λ z. subst (λ (y : ℕ). Marks (get_or allowed' y 0) (Allowed A d First y)) (sym z) (rw b mx));
    rest = λ q m. r q (λ z. omega arith) ∙ u.rest q m;
  }
