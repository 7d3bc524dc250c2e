-- Mappings of one pattern into another, and containment on every document (docs/RULES.md, "Mappings" and "Containment"). Assumes nothing.
use Rattle.std.specs.Prelude.{ℕ, ◌≡◌}
use Rattle.tables.specs.Document.{Document, ValidDocument}
use Rattle.tables.specs.Pattern.{Shape, rows_of}
use Rattle.placing.specs.Placement.{Sends}
use Rattle.placing.specs.Answer.{Answer}
use Rattle.placing.specs.Smallest.{NoLater}

-- where step 0 of B may go in A: to A's step 0, both of axis child, if B's has axis child; otherwise anywhere
abbrev pub BeginsIn : Shape → Shape → ℕ → Type 0
BeginsIn B A s = B.axis 0 ≡ 0 → (s ≡ 0) × (A.axis 0 ≡ 0)

-- m is a mapping of B into A: it sends B's steps to A's, and B's output step to A's
pub record Maps (B A : Shape) (m : ℕ → ℕ) : Type 0 where
  pub sends : Sends B (rows_of A) m
  pub first : BeginsIn B A (m 0)
  pub output : m B.output ≡ A.output

-- m maps B into A, and where any other mapping first differs from it, that one has the larger image
pub record LeastMap (B A : Shape) (m : ℕ → ℕ) : Type 0 where
  pub maps : Maps B A m
  pub least : (n : ℕ → ℕ) → Maps B A n → NoLater m n B.tree.size

-- A is contained in B: on every document that obeys the rules, each answer of A is one of B
abbrev pub Contained : Shape → Shape → Type 0
Contained A B = (d : Document) → ValidDocument d → (i : ℕ) → Answer A d i → Answer B d i

-- A and B are equal: each is contained in the other
pub record Equal (A B : Shape) : Type 0 where
  pub to : Contained A B
  pub back : Contained B A
