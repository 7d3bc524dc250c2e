-- What the two checks of tables ask and answer, and the check of room (docs/RULES.md, "Documents", "Patterns" and "Refusals"). Assumes nothing.
use Rattle.std.specs.Prelude.{ℕ, ◌≤◌, ◌≡◌, List, [], ◌∷◌, Result}
use Rattle.tables.specs.Document.{Document, ValidDocument, of_lists}
use Rattle.tables.specs.Pattern.{ValidPattern}
use Rattle.tables.specs.Refusal.{Check, Decided}
use Rattle.tables.specs.declared.Pattern.{Pattern}
use Rattle.tables.specs.declared.Refusal.{Refusal}
use Rattle.tables.specs.declared.right.RightDocument.{RightDocument}
use Rattle.tables.specs.declared.right.RightPattern.{RightPattern}

-- a document obeys the rules
abbrev pub document_right : Document → List Check
document_right d = record { asks = ValidDocument d; gives = 4 } ∷ []

-- a pattern obeys the rules
abbrev pub pattern_right : Pattern → List Check
pattern_right p = record { asks = ValidPattern p; gives = 3 } ∷ []

-- there is room for n entries in a list of m
abbrev pub room_for : ℕ → ℕ → List Check
room_for n m = record { asks = n ≤ m; gives = 5 } ∷ []

-- the document is handed back exactly where it obeys the rules, else it is refused
abbrev pub ChecksDocument : Document → Result RightDocument Refusal → Type 0
ChecksDocument d r = Decided (document_right d) r (λ a. of_lists a.lists ≡ d) (Unit {0})

-- the pattern is handed back exactly where it obeys the rules, else it is refused
abbrev pub ChecksPattern : Pattern → Result RightPattern Refusal → Type 0
ChecksPattern p r = Decided (pattern_right p) r (λ a. a.table.now ≡ p) (Unit {0})
