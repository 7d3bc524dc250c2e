-- The search for the smallest step of A that may take a step of B. Assumes nothing.
use Rattle.tables.proofs.Kit.{ℕ, zero, suc, ◌≤◌, ◌<◌, ◌≡◌, ◌+◌, refl, inr, ⊎_elim, List, arith, dec_lt, get_or}
use Rattle.std.proofs.Common.{Option, Some, None}
use Rattle.tables.specs.{
  Bits.bit,
  Column.step_no,
  Tree.{Below, child},
  Pattern.{Shape, rows_of, shape_of, ValidShape, ValidPattern},
  declared.{Pattern.Pattern, StepNo.StepNo},
}
use Rattle.tables.proofs.{Rules.shape_ordered, Trees.{below_lt, below_up, below_here}, Depth.run}
use Rattle.placing.specs.Placement.{Goes}
use Rattle.mappings.specs.Fits.{Picks, picked, nothing, StepsOf, ImageAt}

module _ {X : ℕ → Type 0} where
  -- what is found is the smallest, where nothing before it is right
  pub pick_here : (s : StepNo) → X s.0 → ((j : ℕ) → j < s.0 → X j → ⊥) → Picks X (Some s)
  pick_here s x n = picked s x (λ j y. elim (dec_lt j s.0) [ yes h ↦ absurd (n j h y) | no h ↦ omega arith ])

  -- what was found has it, and is the smallest
  pub pick_found : {s : StepNo} → Picks X (Some s) → X s.0 × ((j : ℕ) → X j → s.0 ≤ j)
  pick_found (picked s x f) = (x, f)

  -- where nothing was found, there is none
  pub pick_none : Picks X None → (j : ℕ) → X j → ⊥
  pick_none (nothing f) j y = f j y

  -- of two kinds that are one
  pub pick_to : {Y : ℕ → Type 0} {r : Option StepNo} → ((j : ℕ) → X j → Y j) → ((j : ℕ) → Y j → X j) → Picks X r → Picks Y r
  pick_to f g (picked s x h) = picked s (f s.0 x) (λ j y. h j (g j y))
  pick_to f g (nothing h) = nothing (λ j y. h j (g j y))

-- a table that obeys the rules, by itself
pub own_steps : {a : Pattern} → ValidPattern a → StepsOf (shape_of a) a
own_steps v = record { valid = v; count = refl; parent = λ j. refl; axis = λ j. refl }

module _ (A : Shape) (fit : List ℕ) (t axis q : ℕ) where
  -- the same of a step that is below q
  abbrev pub Fits : ℕ → Type 0
  Fits j = (axis ≡ 0 → (A.tree.parent j ≡ q) × (A.axis j ≡ 0)) × (bit (get_or fit j 0) t ≡ 1)

  -- none of the steps after q and before s may take step t
  pub record Sought (s : ℕ) : Type 0 where
    pub after : q < s
    pub none : (j : ℕ) → q < j → j < s → ImageAt A fit t axis q j → ⊥

  -- a step of this axis goes below q
  goes_below : (a j : ℕ) → Goes (rows_of A) a q j → Below A.tree q j
  goes_below zero j g = child g.0
  goes_below (suc a) j g = g

  into : (a j : ℕ) → Below A.tree q j → (a ≡ 0 → (A.tree.parent j ≡ q) × (A.axis j ≡ 0)) → Goes (rows_of A) a q j
  into zero j b h = let k = (below_up b).0 in (record { late = k.late; here = k.here; up = (h refl).0 }, (h refl).1)
  into (suc a) j b h = b

  pub sought_start : Sought (q + 1)
  sought_start = record { after = omega arith; none = λ j h k. absurd (omega arith) }

  module _ (va : ValidShape A) (s : ℕ) (u : Sought s) where
    before : (j : ℕ) → j < s → ImageAt A fit t axis q j → ⊥
    before j l x = u.none j (below_lt (shape_ordered va) (goes_below axis j x.0)) l x

    -- where some step may take step t, it is not before s, and s is in the run after q
    in_run : (j : ℕ) → ImageAt A fit t axis q j → Below A.tree q s
    in_run j x = elim (dec_lt j s) [
      | yes l ↦ absurd (before j l x)
      | no l ↦ ⊎_elim (λ e. absurd (omega (arith, u.after, e))) (λ b. b)
          (run (shape_ordered va) q j s (inr (goes_below axis j x.0)) (omega (arith, u.after)) (omega arith))
    ]

    pub sought_here : (j : ℕ) × ImageAt A fit t axis q j → Fits s → Picks (ImageAt A fit t axis q) (Some (step_no s))
    sought_here w f = pick_here (step_no s) (into axis s (in_run w.0 w.1) f.0, f.1) before

    -- there is none past the last step
    pub sought_end : A.tree.size ≤ s → Picks (ImageAt A fit t axis q) None
    sought_end h = nothing (λ j x. before j (omega (arith, below_here (goes_below axis j x.0))) x)
