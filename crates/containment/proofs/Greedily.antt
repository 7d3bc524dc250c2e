-- The smallest mapping, chosen step by step, and the array that holds it. Assumes nothing.
use Rattle.tables.proofs.Kit.{ℕ, zero, suc, ◌+◌, ◌≤◌, ◌<◌, ◌≡◌, refl, sym, ap, ◌∙◌, subst, subst₂, List, ◌∷◌, arith, ℕ_discrete, get_or, set, replicate}
use Rattle.std.proofs.Common.{Option, Some, IsSome}
use Rattle.tables.specs.{Bits.bit, Column.{blocks, step_no, step_array}, Tree.{Child, child}, Pattern.{Shape, rows_of, ValidShape}, declared.StepNo.StepNo}
use Rattle.tables.proofs.{Choice.{upd, upd_same, upd_other}, Columns.{steps_next, steps_ext}, Rules.shape_ordered, Trees.{below_lt, below_here}}
use Rattle.placing.specs.Placement.{Goes}
use Rattle.placing.proofs.{Fit.{Able, able_ok, able_next}, Least.greedy_least}
use Rattle.containment.specs.Mapping.{BeginsIn, LeastMap}
use Rattle.mappings.specs.Fits.{FitsIn, FitTable, Picks, picked, nothing, ImageAt}
use Rattle.mappings.proofs.{StepFits.{map_task, fits_able, able_fits}, Images.pick_found}
use Rattle.containment.proofs.Deciding.{maps_fit, fit_maps}

-- the array of step 0 alone
pub mapping_one : (r : ℕ) → step_no r ∷ replicate 63 (step_no 0) ≡ step_array (λ u. r) 1
unfolding step_array blocks
mapping_one r = refl

-- one step more
pub mapping_more : (f : ℕ → ℕ) (k s : ℕ) → k < 64 → set (step_array f k) k (step_no s) ≡ step_array (upd f k s) (k + 1)
mapping_more f k s l =
    steps_next (upd f k s) (step_array f k) k s l (sym (upd_same f k s k refl)) (steps_ext f (upd f k s) k (λ u h. sym (upd_other f k s u (omega arith))))

-- the first k steps of B have their images, each the smallest that its parent's and what lies below it allow
pub record Chose (B A : Shape) (k : ℕ) (f : ℕ → ℕ) : Type 0 where
  pub can : (u : ℕ) → u < k → Able (map_task B A) u (f u)
  pub first : BeginsIn B A (f 0)
  pub least : (j : ℕ) → BeginsIn B A j → Able (map_task B A) 0 j → f 0 ≤ j
  pub edge : (u q : ℕ) → u < k → Child B.tree q u → Goes (rows_of A) (B.axis u) (f q) (f u)
  pub next : (u q j : ℕ) → u < k → Child B.tree q u → Goes (rows_of A) (B.axis u) (f q) j → Able (map_task B A) u j → f u ≤ j

module _ (B A : Shape) (vb : ValidShape B) (va : ValidShape A) where
  -- step 0
  pub chose_start : (r : StepNo) → Picks (λ j. BeginsIn B A j × FitsIn B A j 0) (Some r) → Chose B A 1 (λ u. r.0)
  chose_start r p =
      let h = pick_found p in
      record {
        can = λ u k. let z : 0 ≡ u = omega arith in subst (λ (x : ℕ). Able (map_task B A) x r.0) z (fits_able B A vb r.0 0 h.0.1);
        first = h.0.0;
        least = λ j b a. h.1 j (b, able_fits B A vb j 0 vb.some a);
        edge = λ u q k c. absurd (omega (arith, c.late));
        next = λ u q j k c. absurd (omega (arith, c.late));
      }

  module _ (fit : List ℕ) (table : FitTable B A fit) (k : ℕ) (f : ℕ → ℕ) (late : 0 < k) (here : k < B.tree.size) (h : Chose B A k f) where
    abbrev q : ℕ
    q = B.tree.parent k

    hangs : Child B.tree q k
    hangs = record { late = late; here = here; up = refl }

    up : q < k
    up = below_lt (shape_ordered vb) (child hangs)

    -- a step that can be sent fits, by the table
    sent : (j : ℕ) → Able (map_task B A) k j → bit (get_or fit j 0) k ≡ 1
    sent j a = (table j (able_ok (map_task B A) a).0.here).put k (able_fits B A vb j k here a)

    -- there is an image
    pub image_there : (j : ℕ) × ImageAt A fit k (B.axis k) (f q) j
    image_there = let n = able_next (map_task B A) (h.can q up) k hangs in (n.0, (n.1, sent n.0 n.2))

    -- so one is picked
    pub image_some : {r : Option StepNo} → Picks (ImageAt A fit k (B.axis k) (f q)) r → IsSome r
    image_some (picked s x h) = refl
    image_some (nothing h) = absurd (h image_there.0 image_there.1)

    -- and that can be sent
    module _ (r : StepNo) (p : Picks (ImageAt A fit k (B.axis k) (f q)) (Some r)) where
      goes_here : (a j : ℕ) → Goes (rows_of A) a (f q) j → j < A.tree.size
      goes_here zero j g = g.0.here
      goes_here (suc a) j g = below_here g

      right : Goes (rows_of A) (B.axis k) (f q) r.0 × Able (map_task B A) k r.0
      right = let w = (pick_found p).0 in (w.0, fits_able B A vb r.0 k ((table r.0 (goes_here (B.axis k) r.0 w.0)).only k w.1))

      old : (u : ℕ) → u < k → upd f k r.0 u ≡ f u
      old u l = upd_other f k r.0 u (omega arith)

      now : upd f k r.0 k ≡ r.0
      now = upd_same f k r.0 k refl

      -- its parent's image is an earlier one
      earlier : (u o : ℕ) → u < k + 1 → Child B.tree o u → o < k
      earlier u o l c = omega (arith, below_lt (shape_ordered vb) (child c))

      pub chose_more : Chose B A (k + 1) (upd f k r.0)
      chose_more = record {
        can = λ u l. elim (ℕ_discrete u k) [
          | yes e ↦ subst (λ (x : ℕ). Able (map_task B A) x (upd f k r.0 x)) (sym e) (rw now right.1)
          | no n ↦ rw (old u (omega arith)) (h.can u (omega arith))
        ];
        first = rw (old 0 late) h.first;
        least = rw (old 0 late) h.least;
        edge = λ u o l c. elim (ℕ_discrete u k) [
          | yes e ↦
              let z : q ≡ o = ap B.tree.parent (sym e) ∙ c.up in
              subst (λ (x : ℕ). Goes (rows_of A) (B.axis x) (upd f k r.0 o) (upd f k r.0 x)) (sym e)
              (subst (λ (y : ℕ). Goes (rows_of A) (B.axis k) (upd f k r.0 y) (upd f k r.0 k)) z (rw (old q up, now) right.0))
          | no n ↦ rw (old u (omega arith), old o (earlier u o l c)) (h.edge u o (omega arith) c)
        ];
        next = λ u o j l c g a. elim (ℕ_discrete u k) [
          | yes e ↦
              let z : o ≡ q = sym c.up ∙ ap B.tree.parent e in
              let g' : Goes (rows_of A) (B.axis k) (f q) j
              = subst₂ (λ (x : ℕ) (y : ℕ). Goes (rows_of A) (B.axis x) (f y) j) e z
              (subst (λ (y : ℕ). Goes (rows_of A) (B.axis u) y j) (old o (earlier u o l c)) g) in
              omega (arith, (pick_found p).1 j (g', sent j (subst (λ (x : ℕ). Able (map_task B A) x j) e a)), ap (upd f k r.0) e, now)
          | no n ↦ omega (
            arith,
            h.next u o j (omega arith) c (subst (λ (y : ℕ). Goes (rows_of A) (B.axis u) y j) (old o (earlier u o l c)) g) a,
            old u (omega arith),
          )
        ];
      }

  -- all steps
  pub chose_end : (f : ℕ → ℕ) → Chose B A B.tree.size f → LeastMap B A f
  chose_end f h = record {
    maps = fit_maps B A vb va f (record { ok = λ u l. able_ok (map_task B A) (h.can u l); edge = λ u q c. h.edge u q c.here c }) h.first;
    least = λ n k. greedy_least (map_task B A) (BeginsIn B A) (shape_ordered vb) f n
        (record { first = h.least; next = λ t q j c. h.next t q j c.here c }) (maps_fit B A vb va n k) k.first;
  }
