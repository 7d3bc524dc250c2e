-- What deciding equality checks and answers (docs/RULES.md, "Containment"). Assumes nothing.
use Rattle.std.specs.Prelude.{◌↔◌, Bool, T, List, [], ◌∷◌, Result}
use Rattle.tables.specs.Pattern.{shape_of, ValidPattern}
use Rattle.tables.specs.Refusal.{Check, Decided}
use Rattle.tables.specs.declared.Pattern.{Pattern}
use Rattle.tables.specs.declared.Refusal.{Refusal}
use Rattle.containment.specs.Mapping.{Equal}

-- deciding on a pair of patterns: A's rules, then B's
abbrev pub pair_checks : Pattern → Pattern → List Check
pair_checks A B = record { asks = ValidPattern A; gives = 3 } ∷ record { asks = ValidPattern B; gives = 3 } ∷ []

-- what the call answers
abbrev pub DecidesEquality : Pattern → Pattern → Result Bool Refusal → Type 0
DecidesEquality A B r = Decided (pair_checks A B) r (λ e. T e ↔ Equal (shape_of A) (shape_of B)) (Unit {0})
