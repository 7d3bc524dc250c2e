-- What the second pass keeps from node to node. Only private functions cite this file: a reader of the public contracts need not read it.
--   Ready     what the second pass starts from
--   Allowed   a step may stand at a child of a node, or below it
--   PassedOn  the same, from the steps that stand at the node and those allowed to it
--   Downward  nodes before k have both entries, and the steps that their child nodes may take
--   Listed    the answers among the nodes before k stand at the front of the answer list
-- Assumes nothing.
use Rattle.std.specs.Prelude.{ℕ, ◌+◌, ◌*◌, ◌≤◌, ◌<◌, ◌≡◌, ◌⊎◌, List, ◌++◌, length, get_or, drop}
use Rattle.tables.specs.Bits.{bit, Marks}
use Rattle.tables.specs.Tree.{Child, From}
use Rattle.tables.specs.Document.{Document, node_count, nodes_of}
use Rattle.tables.specs.Pattern.{Shape}
use Rattle.placing.specs.Answer.{Started, Lists}
use Rattle.plan.specs.Steps.{OfAxis}
use Rattle.plan.specs.Leading.{Led}
use Rattle.marking.specs.Entries.{Marked}
use Rattle.answers.specs.Working.{FitsAt, PlacedAt}

-- every node has its first entry, and a second entry of 1 or 0
pub record Ready (A : Shape) (d : Document) (work : List ℕ) : Type 0 where
  pub room : 2 * node_count d ≤ length work
  pub fits : (i : ℕ) → i < node_count d → Marks (get_or work (2 * i) 0) (FitsAt A d i)
  pub flags : (i : ℕ) → i < node_count d → Marked work i ⊎ (get_or work (2 * i + 1) 0 ≡ 0)

-- step t may stand at a child of node i, or for axis descendant below node i, since its parent step stands at i, or above
abbrev pub Allowed : Shape → Document → (ℕ → Type 0) → ℕ → ℕ → Type 0
Allowed A d First i t =
    (s : ℕ) × Child A.tree s t
    × (((A.axis t ≡ 0) × PlacedAt A d First i s) ⊎ ((A.axis t ≡ 1) × ((a : ℕ) × From (nodes_of d).tree a i × PlacedAt A d First a s)))

-- step t may stand at a child of a node, where `whole` stands at the node and `over` was allowed to it
abbrev pub PassedOn : Shape → ℕ → ℕ → ℕ → Type 0
PassedOn A whole over t = Led (Child A.tree) whole t ⊎ ((bit over t ≡ 1) × OfAxis A 1 t)

-- nodes before k have both entries, and the steps that their child nodes may take; later ones have the first, and their start mark
pub record Downward (A : Shape) (d : Document) (First : ℕ → Type 0) (k : ℕ) (before work allowed : List ℕ) : Type 0 where
  pub same_length : length work ≡ length before
  pub fits : (i : ℕ) → i < node_count d → Marks (get_or work (2 * i) 0) (FitsAt A d i)
  pub placed : (i : ℕ) → i < k → Marks (get_or work (2 * i + 1) 0) (PlacedAt A d First i)
  pub starts : (i : ℕ) → k ≤ i → i < node_count d → Marks (get_or work (2 * i + 1) 0) (λ s. (s ≡ 0) × First i)
  pub allows : (i : ℕ) → i < k → Marks (get_or allowed i 0) (Allowed A d First i)
  pub rest : (q : ℕ) → 2 * node_count d ≤ q → get_or work q 0 ≡ get_or before q 0

-- c answers among the nodes before k, ascending at the front of the list
pub record Listed (A : Shape) (d : Document) (First : ℕ → Type 0) (k c : ℕ) (before list : List ℕ) : Type 0 where
  pub answers : List ℕ
  pub lists : Lists (λ i. (i < k) × Started First A d i) answers
  pub count : c ≡ length answers
  pub few : c ≤ k
  pub written : list ≡ answers ++ drop c before
