-- The fresh label, and the witness document of a pattern (docs/RULES.md, "Containment").
--   Stands        a label stands at a step
--   Fresh         the smallest label that stands in neither pattern
--   descendants   how many of the first steps have axis descendant
--   own_node_of       the node that the witness writes for a step
--   witness_size   how many nodes the witness has
--   hook          the parent of the first node written for a step
--   by_axis        a choice by an axis
--   parents_for    the parents written for a step
--   labels_for     the labels written for a step
--   witness_of     the witness
--   answer_node    its answer node
-- Assumes nothing.
use Rattle.std.specs.Prelude.{ℕ, zero, suc, ◌+◌, ◌≤◌, ◌<◌, ◌≡◌, ◌⊎◌, List, [], ◌∷◌}
use Rattle.tables.specs.Tree.{IsLabel}
use Rattle.tables.specs.Column.{blocks}
use Rattle.tables.specs.Document.{Document, document_of}
use Rattle.tables.specs.Pattern.{Shape}

-- label l stands at a step of A
pub record Stands (A : Shape) (l : ℕ) : Type 0 where
  pub step : ℕ
  pub here : step < A.tree.size
  pub is : A.label step ≡ l

-- l is a label that no step of the two patterns has, and every smaller label stands at one
pub record Fresh (A B : Shape) (l : ℕ) : Type 0 where
  pub label : IsLabel l
  pub not_first : Stands A l → ⊥
  pub not_second : Stands B l → ⊥
  pub least : (k : ℕ) → 1 ≤ k → k < l → Stands A k ⊎ Stands B k

-- how many of the first k steps of A have axis descendant, where every axis is 0 or 1
unfoldable pub descendants : Shape → ℕ → ℕ
descendants A zero = 0
descendants A (suc k) = descendants A k + A.axis k

-- the node written for step s: past a node for every step before it and a fresh node for every descendant step up to it
unfoldable pub own_node_of : Shape → ℕ → ℕ
own_node_of A s = s + descendants A (suc s)

-- how many nodes the witness has: the steps, and one more for each descendant step
abbrev pub witness_size : Shape → ℕ
witness_size A = A.tree.size + descendants A A.tree.size

-- the parent of the first node written for step s: the node of its parent step, for step 0 the mark
unfoldable pub hook : Shape → ℕ → ℕ
hook A zero = 65535
hook A (suc s) = own_node_of A (A.tree.parent (suc s))

-- x for a child step, y for a descendant step
abbrev pub by_axis : ℕ → List ℕ → List ℕ → List ℕ
by_axis zero x y = x
by_axis (suc a) x y = y

-- the parents written for step s: a child step's own node hangs on the hook; a descendant step's fresh node does, and its own node on the fresh one
unfoldable pub parents_for : Shape → ℕ → List ℕ
parents_for A s = by_axis (A.axis s) (hook A s ∷ []) (hook A s ∷ (s + descendants A s) ∷ [])

-- the labels written for step s: the fresh label l before a descendant step's own
unfoldable pub labels_for : Shape → ℕ → ℕ → List ℕ
labels_for A l s = by_axis (A.axis s) (A.label s ∷ []) (l ∷ A.label s ∷ [])

-- the witness of A with the fresh label l: what each step writes, in the order of the steps. For //strip[control]//frame with the labels 2, 5 and 3, and l = 1:
--   step 0, descendant   nodes 0 (label 1, the root) and 1 (strip, on 0)
--   step 1, child        node 2 (control, on 1)
--   step 2, descendant   nodes 3 (label 1, on 1) and 4 (frame, on 3), which is the answer node
unfoldable pub witness_of : Shape → ℕ → Document
witness_of A l = document_of (blocks (parents_for A) A.tree.size) (blocks (labels_for A l) A.tree.size)

-- the answer node: the one written for the output step
abbrev pub answer_node : Shape → ℕ
answer_node A = own_node_of A A.output
