-- The main path of a pattern, and the only candidate for rewriting a query by a view (docs/RULES.md, "Rewriting"). Assumes nothing.
use Rattle.std.specs.Prelude.{ℕ, zero, suc, ◌+◌, ◌-◌, ◌≤◌, ◌<◌, ◌≡◌, List, [], ◌∷◌, ◌++◌, length, get_or}
use Rattle.tables.specs.Tree.{Tree, From}
use Rattle.tables.specs.Pattern.{Shape, shape_of, pattern_of}
use Rattle.tables.specs.declared.Pattern.{Pattern}

-- the steps from step 0 down to step s, k of them at most
unfoldable pub path_to : Tree → ℕ → ℕ → List ℕ
path_to T zero s = []
path_to T (suc k) zero = 0 ∷ []
path_to T (suc k) (suc s) = path_to T k (T.parent (suc s)) ++ (suc s ∷ [])

-- the main path: the output step, its parent, and so on up to step 0, listed from the top
unfoldable pub main_path : Shape → List ℕ
main_path A = path_to A.tree (suc A.output) A.output

-- the query's k-th main path step, where k is the number of steps on the view's main path
unfoldable pub cut_step : Shape → Shape → ℕ
cut_step Q U = get_or (main_path Q) (length (main_path U) - 1) 0

-- C is Q's step c with all below it, in order, the axis of its step 0 set to child and Q's output kept
pub record Cut (Q : Shape) (c : ℕ) (C : Shape) : Type 0 where
  pub all : (u : ℕ) → From Q.tree c u → u < c + C.tree.size
  pub only : (t : ℕ) → t < C.tree.size → From Q.tree c (c + t)
  pub label : (t : ℕ) → t < C.tree.size → Q.label (c + t) ≡ C.label t
  pub axis : (t : ℕ) → 0 < t → t < C.tree.size → Q.axis (c + t) ≡ C.axis t
  pub parent : (t : ℕ) → 0 < t → t < C.tree.size → Q.tree.parent (c + t) ≡ c + C.tree.parent t
  pub first_axis : C.axis 0 ≡ 0
  pub root : C.tree.parent 0 ≡ 255
  pub output : Q.output ≡ c + C.output

-- E is the candidate for Q by U: Q's main path is long enough, the labels agree, and E is the table of the cut
pub record Candidate (Q U E : Pattern) : Type 0 where
  pub long : length (main_path (shape_of U)) ≤ length (main_path (shape_of Q))
  pub same : (shape_of U).label (shape_of U).output ≡ (shape_of Q).label (cut_step (shape_of Q) (shape_of U))
  pub shape : Shape
  pub cut : Cut (shape_of Q) (cut_step (shape_of Q) (shape_of U)) shape
  pub table : E ≡ pattern_of shape
