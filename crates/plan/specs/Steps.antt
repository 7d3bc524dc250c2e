-- Sets of a pattern's steps, as numbers whose bits are steps. Only private functions of the calls cite this file: a reader of the public contracts need not
-- read it.
--   mask_for   a choice of two numbers by an axis
--   without   the bits of one number that another lacks
--   OfLabel   the steps that fit a row by their label
--   no_labels  no step by its label
--   Labelled  the steps by the two bytes of their label
--   OfAxis    the steps past step 0 of an axis
--   Next      the steps that hang on the step just before them
--   Forked     a set has every step on which a step other than the next one hangs
--   SetsOf    the sets are those of a pattern
--   Missing   the steps that have no place below a row
--   Lacks     the steps with a child step that has none
--   Lacking   a set tells which steps of another lack one
--   FitsBy    the steps that fit at a row, by what fits below it
-- Assumes nothing.
use Rattle.std.specs.Prelude.{ℕ, zero, suc, ◌+◌, ◌/◌, ◌%◌, ◌<◌, ◌≡◌, get_or, replicate}
use Rattle.std.specs.Int.Bits.{bit_and, bit_xor}
use Rattle.tables.specs.Bits.{bit, Marks}
use Rattle.tables.specs.Tree.{Child}
use Rattle.tables.specs.Pattern.{Shape, ValidShape}
use Rattle.placing.specs.Placement.{LabelFits}
use Rattle.plan.specs.declared.{labels.Labels.{Labels}, edges.Sets.{Sets}}

-- c for axis child, d for axis descendant
abbrev pub mask_for : ℕ → ℕ → ℕ → ℕ
mask_for zero c d = c
mask_for (suc a) c d = d

-- the bits of x that y does not have
abbrev pub without : ℕ → ℕ → ℕ
without x y = bit_xor x (bit_and x y)

-- step s fits a row of label l by its label
abbrev pub OfLabel : Shape → ℕ → ℕ → Type 0
OfLabel A l s = (s < A.tree.size) × LabelFits (A.label s) l

-- both tables before any step has come
abbrev pub no_labels : Labels
no_labels = record { low = replicate 256 0; high = replicate 256 0 }

-- entry k of each table has the steps of which that byte of the label is k
pub record Labelled (A : Shape) (x : Labels) : Type 0 where
  pub lows : (k : ℕ) → Marks (get_or x.low k 0) (λ s. (s < A.tree.size) × (A.label s % 256 ≡ k))
  pub highs : (k : ℕ) → Marks (get_or x.high k 0) (λ s. (s < A.tree.size) × (A.label s / 256 ≡ k))

-- step t, which is not step 0, has axis a
abbrev pub OfAxis : Shape → ℕ → ℕ → Type 0
OfAxis A a t = (0 < t) × (t < A.tree.size) × (A.axis t ≡ a)

-- step t hangs on the step just before it
abbrev pub Next : Shape → ℕ → Type 0
Next A t = (0 < t) × (t < A.tree.size) × (A.tree.parent t + 1 ≡ t)

-- x has every step on which a step other than the next one hangs
pub record Forked (A : Shape) (x : ℕ) : Type 0 where
  pub has : (s t : ℕ) → Child A.tree s t → (s + 1 ≡ t → ⊥) → bit x s ≡ 1

-- the sets are those of A, which obeys the rules
pub record SetsOf (A : Shape) (x : Sets) : Type 0 where
  pub valid : ValidShape A
  pub child : Marks x.child (OfAxis A 0)
  pub descendant : Marks x.descendant (OfAxis A 1)
  pub next : Marks x.next (Next A)
  pub forked : Forked A x.forked

-- step t past step 0 has no place below a row, where c has the steps with a place at a child edge, d those with one anywhere below
abbrev pub Missing : Shape → ℕ → ℕ → ℕ → Type 0
Missing A c d t = (0 < t) × (t < A.tree.size) × (bit (mask_for (A.axis t) c d) t ≡ 1 → ⊥)

-- step s has a child step with no place
abbrev pub Lacks : Shape → ℕ → ℕ → ℕ → Type 0
Lacks A c d s = (t : ℕ) × Child A.tree s t × (bit (mask_for (A.axis t) c d) t ≡ 1 → ⊥)

-- r has none but steps that lack one, and all such steps of the mask
pub record Lacking (A : Shape) (mask c d r : ℕ) : Type 0 where
  pub sound : (s : ℕ) → bit r s ≡ 1 → Lacks A c d s
  pub complete : (s : ℕ) → bit mask s ≡ 1 → Lacks A c d s → bit r s ≡ 1

-- step s fits at a row of which Right holds for s, where c has the steps that fit at a child edge of the row and d those that fit anywhere below it
abbrev pub FitsBy : Shape → (ℕ → Type 0) → ℕ → ℕ → ℕ → Type 0
FitsBy A Right c d s = (s < A.tree.size) × Right s × ((t : ℕ) → Child A.tree s t → bit (mask_for (A.axis t) c d) t ≡ 1)
