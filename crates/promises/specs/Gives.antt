-- What a compensation is for: with the view's answers it gives the query's (docs/RULES.md, "Rewriting"). Assumes nothing.
use Rattle.std.specs.Prelude.{ℕ, ◌↔◌}
use Rattle.tables.specs.Document.{Document, ValidDocument}
use Rattle.tables.specs.Pattern.{shape_of}
use Rattle.tables.specs.declared.Pattern.{Pattern}
use Rattle.placing.specs.Answer.{Answer, Started}
use Rattle.joining.specs.Join.{Joinable}

-- the compensation E gives the query Q by the view U: it can be joined to U and, on every document, started at U's answers it has exactly Q's answers
pub record Gives (Q U E : Pattern) : Type 0 where
  pub joinable : Joinable U E
  pub answers : (d : Document) → ValidDocument d → (i : ℕ) → Started (Answer (shape_of U) d) (shape_of E) d i ↔ Answer (shape_of Q) d i
