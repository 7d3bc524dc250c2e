-- What the private functions of containment answer. Only private functions cite this file: a reader of the public contracts need not read it.
--   FreshOrNone  the fresh label of two patterns, none where none is left
--   Chosen       the smallest mapping as an array
--   Mapped       the same, where there is a mapping
--   StepWrote    the nodes of one step of a witness
-- Assumes nothing.
use Rattle.std.specs.Prelude.{ℕ, ◌+◌, ◌≤◌, ◌<◌, ◌≡◌, ◌⊎◌, List, set, Option, Some, None}
use Rattle.tables.specs.Column.{step_array}
use Rattle.tables.specs.Pattern.{Shape, shape_of}
use Rattle.tables.specs.declared.Pattern.{Pattern}
use Rattle.tables.specs.declared.StepNo.{StepNo}
use Rattle.tables.specs.declared.NodeNo.{NodeNo}
use Rattle.containment.specs.Mapping.{LeastMap, Contained}
use Rattle.containment.specs.Containment.{Within}
use Rattle.containment.specs.Witness.{Stands, Fresh}

-- none says that every label stands at a step of A or of B
abbrev pub FreshOrNone : Shape → Shape → Option ℕ → Type 0
FreshOrNone A B (Some l) = Fresh A B l
FreshOrNone A B None = (k : ℕ) → 1 ≤ k → k < 65536 → Stands A k ⊎ Stands B k

-- the array holds the smallest mapping of B into A
pub record Chosen (B A : Shape) (mapping : List StepNo) : Type 0 where
  pub by : ℕ → ℕ
  pub least : LeastMap B A by
  pub array : mapping ≡ step_array by B.tree.size

-- A is contained in B, and this is the smallest mapping; none says that it is not
abbrev pub Mapped : Pattern → Pattern → Option (List StepNo) → Type 0
Mapped A B (Some mapping) = Within A B mapping
Mapped A B None = Contained (shape_of A) (shape_of B) → ⊥

-- from place m on, the nodes of a step with this axis, hook and label were put into both lists; the next place is r
pub record StepWrote (axis : ℕ) (hook : NodeNo) (label l m : ℕ) (parents₀ labels₀ : List ℕ) (r : ℕ) (parents labels : List ℕ) : Type 0 where
  pub one : axis ≡ 0 → (r ≡ m + 1) × (parents ≡ set parents₀ m hook.0) × (labels ≡ set labels₀ m label)
  pub two : axis ≡ 1 → (r ≡ m + 2) × (parents ≡ set (set parents₀ m hook.0) (m + 1) m) × (labels ≡ set (set labels₀ m l) (m + 1) label)
