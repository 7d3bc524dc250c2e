-- No second answer fits the rewriting call. Assumes nothing.
use Rattle.tables.proofs.Kit.{◌≡◌, refl, ap, Result, Option, Some, None}
use Rattle.tables.specs.{declared.Pattern.Pattern, declared.Refusal.Refusal}
use Rattle.tables.proofs.Refusals.{decided_unique}
use Rattle.rewriting.specs.Rewriting.{rewriting_checks, AnswersRewriting, Rewrites}
use Rattle.rewriting.proofs.Rewritten.{candidate_unique}

answers_unique : (Q U : Pattern) (a b : Option Pattern) → AnswersRewriting Q U a → AnswersRewriting Q U b → a ≡ b
answers_unique Q U (Some p) (Some q) h k = ap Some (candidate_unique h.0 k.0)
answers_unique Q U (Some p) None h k = absurd (k p h.0 h.1)
answers_unique Q U None (Some q) h k = absurd (h q k.0 k.1)
answers_unique Q U None None h k = refl

-- two answers to one call are one
pub rewrites_unique : (Q U : Pattern) (r q : Result (Option Pattern) Refusal) → Rewrites Q U r → Rewrites Q U q → r ≡ q
rewrites_unique Q U r q =
    decided_unique (rewriting_checks Q U) r q (AnswersRewriting Q U) (Unit {0}) (AnswersRewriting Q U) (Unit {0}) (answers_unique Q U)
