-- What the rewriting call checks and answers (docs/RULES.md, "Rewriting"). Assumes nothing.
use Rattle.std.specs.Prelude.{◌≤◌, List, [], ◌∷◌, Result, Option, Some, None}
use Rattle.tables.specs.Pattern.{shape_of, ValidPattern}
use Rattle.tables.specs.Refusal.{Check, Decided}
use Rattle.tables.specs.declared.Pattern.{Pattern}
use Rattle.tables.specs.declared.Refusal.{Refusal}
use Rattle.containment.specs.Mapping.{Equal}
use Rattle.joining.specs.Join.{join_of, Joinable}
use Rattle.rewriting.specs.Candidate.{Candidate}

-- the compensation E serves the query Q by the view U: it can be joined to U, and the join is equal to Q
pub record Serves (Q U E : Pattern) : Type 0 where
  pub joinable : Joinable U E
  pub equal : Equal (shape_of (join_of U E)) (shape_of Q)

-- rewriting Q by U: Q's rules, U's rules, the size of both
abbrev pub rewriting_checks : Pattern → Pattern → List Check
rewriting_checks Q U =
    record { asks = ValidPattern Q; gives = 3 } ∷ record { asks = ValidPattern U; gives = 3 }
    ∷ record { asks = (Q.count ≤ 32) × (U.count ≤ 32); gives = 8 } ∷ []

-- the answer by its cases: the candidate where it serves, else nothing
abbrev pub AnswersRewriting : Pattern → Pattern → Option Pattern → Type 0
AnswersRewriting Q U (Some E) = Candidate Q U E × Serves Q U E
AnswersRewriting Q U None = (E : Pattern) → Candidate Q U E → Serves Q U E → ⊥

-- what the call answers
abbrev pub Rewrites : Pattern → Pattern → Result (Option Pattern) Refusal → Type 0
Rewrites Q U r = Decided (rewriting_checks Q U) r (AnswersRewriting Q U) (Unit {0})
